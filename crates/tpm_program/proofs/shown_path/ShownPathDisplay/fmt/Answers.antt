use Rattle.std.proofs.Common.{ℕ, List, ◌++◌, append_assoc, append-nil, rules, subst, sym, ◌∙◌}
use Rattle.std.proofs.lemmas.Str.{IsUtf8-past_char, chars_past_char}
use Rattle.std.proofs.Output.{has_written_append}
use Rattle.std.proofs.StrCases.{chars_of_empty}
use Rattle.std.specs.Fmt.{HasWritten}
use Rattle.tpm_program.specs.FaultText.{shown_character, shown_path}
use Rattle.tpm_program.proofs.shown_path.ShownPathDisplay.fmt.Goals as goal

pub loop-character-preserved : goal.loop-character-preserved
loop-character-preserved g c =
    let held = c.loop-character.invariant in
    let parts = c.in-Some.ensures.steps.0 in
    let step = chars_past_char _ _ c.in-Some.character held.0 parts in (
      IsUtf8-past_char _ _ c.in-Some.character held.0 parts,
      λ plain.
          let so_far = held.1 plain in
          (so_far.0 ++ shown_character c.in-Some.character, has_written_append _ _ _ _ _ _ so_far.1 (search rules), rw append_assoc (rw step at so_far.2)),
    )

pub returns-clause-writes : goal.returns-clause-writes
unfolding shown_path
returns-clause-writes g c = λ plain _.
    let so_far = c.loop-character.invariant.1 plain in
    let none = chars_of_empty _ c.in-None.ensures.steps.0.0 in
    subst (λ (text : List ℕ). HasWritten g.W.Write.write_str_gives c.args.f.now text c.loop-character.f)
    (sym (append-nil so_far.0) ∙ (rw none at so_far.2)) so_far.1
