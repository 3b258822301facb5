use Rattle.std.proofs.Common.{◌≡◌, sym, subst, ◌∙◌, rules}
use Rattle.std.specs.Prelude.{IsErrOf}
use Rattle.tpm_output.specs.declared.fault.ToolFault.TheVariants.{Read}
use Rattle.tpm_show.specs.declared.capture.Capture.{Capture}
use Rattle.tpm_show.specs.Capture.{TellsCapture}
use Rattle.tpm_show.proofs.Captures.{answers, not_none, told_ended}
use Rattle.tpm_show.proofs.capture.show_lines.Goals as goal

pub returns-in_err-capture-clause-answered : goal.returns-in_err-capture-clause-answered
returns-in_err-capture-clause-answered g c = λ is.
    let same : IsErrOf c.take_lines.result Read = search rules in
    let read = c.take_lines.ensures.answered same in (
      read.0,
      read.1.text,
      read.2,
      told_ended c.args.how c.new.result c.new.ensures.place c.new.ensures.status read.0 read.1,
      read.3,
    )

pub unreachable-requires : goal.unreachable-requires
unreachable-requires g c =
    let read = c.in_ok-capture.ensures.ok in
    let coming = g.R.Source.coming in
    let out = answers c.args.how c.new.result c.new.ensures.place c.new.ensures.status (coming c.args.input.now) (coming c.take_lines.new.input)
    read.0 read.1 c.in_ok-capture.field-0 read.2 read.3 in
    not_none out.0 (sym out.1 ∙ c.in-None.is)

pub returns-clause-ok : goal.returns-clause-ok
returns-clause-ok g c =
    let read = c.in_ok-capture.ensures.ok in
    let coming = g.R.Source.coming in
    let out = answers c.args.how c.new.result c.new.ensures.place c.new.ensures.status (coming c.args.input.now) (coming c.take_lines.new.input)
    read.0 read.1 c.in_ok-capture.field-0 read.2 read.3 in
    let same : out.0 ≡ c.in-Some.capture = cc (out.1, c.in-Some.is) in (
      read.0,
      read.1,
      out.2,
      subst (λ (capture : Capture). TellsCapture c.args.how read.0 capture.status read.1) same out.3,
      read.4,
    )
