use Rattle.std.proofs.Common.{ℕ, List, Some, refl, subst, rules}
use Rattle.std.specs.Prelude.{IsErrOf}
use Rattle.std.specs.Io.KnownBytes.{Appends}
use Rattle.tpm_output.specs.declared.fault.ToolFault.TheVariants.{InputTooLong, Read}
use Rattle.tpm_output.specs.LineSinks.{Reading}
use Rattle.tpm_script.specs.declared.script.Run.{Run}
use Rattle.tpm_script.specs.inner.Progress.{StandsAt}
use Rattle.tpm_script.proofs.Scripts.{answered, no_further, outcome, reads_script, too_much}
use Rattle.tpm_script.proofs.script.run_script.Goals as goal

pub returns-in_err-take_lines-clause-further : goal.returns-in_err-take_lines-clause-further
returns-in_err-take_lines-clause-further g c = λ unless.
    let run : Run = record { device = c.args.device; command = 1 } in
    let read = c.take_lines.ensures.further (λ is. let same : IsErrOf c.from_residual.result InputTooLong = search rules in unless same) in
    no_further run _ _ read.0 read.1

pub returns-in_err-take_lines-clause-answered : goal.returns-in_err-take_lines-clause-answered
unfolding StandsAt
returns-in_err-take_lines-clause-answered g c = λ is.
    let run : Run = record { device = c.args.device; command = 1 } in
    let same : IsErrOf c.take_lines.result Read = search rules in
    let read = c.take_lines.ensures.answered same in
    let goes = read.1 in
    let all : Reading Run = record { first = run; bytes = goes.lines; left = Some goes.sink; text = goes.text } in (
      goes.lines,
      goes.line,
      rw goes.are at read.2,
      answered run read.0 goes,
      λ o h stands. subst (λ (text : List ℕ). Appends (g.W.Write.contents c.args.out.now) (g.W.Write.contents c.take_lines.new.out) text)
          ((outcome all refl goes.takes).is o h stands) read.3,
    )

pub returns-in_err-take_lines-clause-too_long : goal.returns-in_err-take_lines-clause-too_long
returns-in_err-take_lines-clause-too_long g c = λ is.
    let run : Run = record { device = c.args.device; command = 1 } in
    let same : IsErrOf c.take_lines.result InputTooLong = search rules in
    too_much run _ _ (c.take_lines.ensures.too_long same)

pub returns-in-Some-clause-further : goal.returns-in-Some-clause-further
returns-in-Some-clause-further g c = λ unless.
    let run : Run = record { device = c.args.device; command = 1 } in
    let read = c.in_ok-take_lines.ensures.further (λ is. let z : ⊥ = cc (is) in absurd z) in
    no_further run _ _ read.0 read.1

pub returns-in-None-clause-further : goal.returns-in-None-clause-further
returns-in-None-clause-further g c = λ unless.
    let run : Run = record { device = c.args.device; command = 1 } in
    let read = c.in_ok-take_lines.ensures.further (λ is. let z : ⊥ = cc (is) in absurd z) in
    no_further run _ _ read.0 read.1

pub returns-in-Some-clause-ok : goal.returns-in-Some-clause-ok
unfolding StandsAt
returns-in-Some-clause-ok g c =
    let run : Run = record { device = c.args.device; command = 1 } in
    let read = c.in_ok-take_lines.ensures.ok in
    let all : Reading Run = record { first = run; bytes = read.0; left = c.in_ok-take_lines.field-0; text = read.1 } in
    let out = outcome all refl read.3.0 in (
      read.0,
      reads_script run _ _ all refl read.2 read.3,
      rw c.in-Some.is at out.status,
      λ o h stands. subst (λ (text : List ℕ). Appends (g.W.Write.contents c.args.out.now) (g.W.Write.contents c.take_lines.new.out) text)
          (out.is o h stands) read.4,
    )

pub returns-in-None-clause-ok : goal.returns-in-None-clause-ok
unfolding StandsAt
returns-in-None-clause-ok g c =
    let run : Run = record { device = c.args.device; command = 1 } in
    let read = c.in_ok-take_lines.ensures.ok in
    let all : Reading Run = record { first = run; bytes = read.0; left = c.in_ok-take_lines.field-0; text = read.1 } in
    let out = outcome all refl read.3.0 in (
      read.0,
      reads_script run _ _ all refl read.2 read.3,
      rw c.in-None.is at out.status,
      λ o h stands. subst (λ (text : List ℕ). Appends (g.W.Write.contents c.args.out.now) (g.W.Write.contents c.take_lines.new.out) text)
          (out.is o h stands) read.4,
    )
