use Rattle.std.proofs.Common.{◌≡◌, ◌+◌, ◌++◌, ◌∙◌, Bool, List, ℕ, true, false, [], ap, append_assoc, arith, string_bytes, sym}
use Rattle.std.proofs.lemmas.List.{append-nil}
use Rattle.std.specs.Prelude.{if◌then◌else◌}
use Rattle.tpm_event_data.specs.Events.{Shown, as_shown, is_of_authority, records_size}
use Rattle.tpm_check.specs.SecureBootLines.{as_measured, authorities_from, authority_line}
use Rattle.tpm_check.proofs.secure_boot_lines.push_authorities.Goals as goal
use Rattle.tpm_check.proofs.secure_boot_lines.push_authorities.Goals.{then-is_of_authority+in_ok-push_line, else-is_of_authority}

pub loop-event-preserved : goal.loop-event-preserved
loop-event-preserved c =
    let bank = c.args.bank in
    let at = c.loop-event.at in
    let e = as_shown c.in-Some.event in
    let others = c.next.new.self in
    let steps = c.in-Some.ensures.steps in
    let i = c.loop-event.invariant in
    let before = string_bytes c.loop-event.text in
    let chosen = λ (is : Bool). before ++ (if is then authority_line at (as_measured bank e) else []) in
    let line : List ℕ = if is_of_authority e then authority_line at (as_measured bank e) else [] in
    let one : string_bytes c.if-is_of_authority.text ≡ before ++ line =
    elim c.if-is_of_authority.branch [
      | then-is_of_authority+in_ok-push_line w ↦
          let is : is_of_authority e ≡ true = sym c.is_of_authority.ensures ∙ w.if-is_of_authority.true in
          ap string_bytes w.text-is ∙ w.in_ok-push_line.ensures ∙ ap (λ (s : Shown). before ++ authority_line at s) w.as_measured.ensures
          ∙ ap chosen (sym is)
      | else-is_of_authority w ↦
          let is : is_of_authority e ≡ false = sym c.is_of_authority.ensures ∙ w.if-is_of_authority.false in
          ap string_bytes w.text-is ∙ sym (append-nil before) ∙ ap chosen (sym is)
    ] in
    let rest = authorities_from authority_line bank (at + c.size-at.result) others in
    record {
      place = omega (arith, i.place, ap records_size steps, c.size-at.ensures);
      within = i.within;
      text = ap (λ (t : List ℕ). t ++ rest) one ∙ append_assoc before line rest
          ∙ ap (λ (n : ℕ). before ++ (line ++ authorities_from authority_line bank (at + n) others)) c.size-at.ensures
          ∙ ap (λ (es : List Shown). before ++ authorities_from authority_line bank at es) (sym steps) ∙ i.text;
    }
