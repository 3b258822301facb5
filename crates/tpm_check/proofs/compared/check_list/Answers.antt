use Rattle.std.proofs.Common.{◌∙◌, Some, ap, refl, subst}
use Rattle.std.specs.Io.KnownBytes.{Appends}
use Rattle.tpm_output.proofs.Joins.{joins_appends}
use Rattle.tpm_check.specs.Compare.{Comparison, no_register_text}
use Rattle.tpm_check.proofs.compared.check_list.Goals as goal

pub returns-in_ok-end-in-Some-2-clause-ok : goal.returns-in_ok-end-in-Some-2-clause-ok
returns-in_ok-end-in-Some-2-clause-ok g c =
    let contents = g.W.Write.contents in
    let old = contents c.args.out.now in
    let new = contents c.end.new.out in
    let left = c.in-Some-2.comparing in
    let ended = c.in_ok-end-in-Some-2.ensures.ok in
    let read = rw c.in-Some-2.is at c.in_ok-comparing.ensures.ok in
    rw c.in-Some.is (
      Some read.0,
      read.2,
      refl,
      ap Some ended.0 ∙ ap (λ (d : Comparison). d.status) read.3,
      subst (λ (d : Comparison). Appends old new d.text) read.3
          (joins_appends old (contents c.compare_lines.new.out) new read.1 (no_register_text left.found.now.form left.any) read.4 ended.1),
    )

pub returns-in-None-clause-ok : goal.returns-in-None-clause-ok
returns-in-None-clause-ok g c =
    let contents = g.W.Write.contents in
    let read = rw c.in-None.is at c.in_ok-comparing.ensures.ok in
    rw c.in-Some.is (
      Some read.0,
      read.2,
      refl,
      ap (λ (d : Comparison). d.status) read.3,
      subst (λ (d : Comparison). Appends (contents c.args.out.now) (contents c.compare_lines.new.out) d.text) read.3 read.4,
    )
