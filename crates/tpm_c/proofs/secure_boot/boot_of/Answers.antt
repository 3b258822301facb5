use Rattle.std.proofs.Common.{◌≤◌, ◌∙◌, length, inl, refl, sym, ap, subst, arith}
use Rattle.std.specs.Prelude.{map}
use Rattle.tpm_log.specs.Events.{shown}
use Rattle.tpm_log.specs.Authorities.{authority_places}
use Rattle.tpm_c.specs.SecureBoots.{state_number, IsBootSaid}
use Rattle.tpm_c.proofs.Placing.{all_written, same_view}
use Rattle.tpm_c.proofs.secure_boot.boot_of.Goals as goal

pub returns-else-count-authorities : goal.returns-else-count-authorities
returns-else-count-authorities c =
    let log = c.args.log.now in
    let places = authority_places log.size (map shown log.records) in
    let said = c.in-Ok.ensures.verdict in
    let fits : length places ≤ length c.args.authorities.now = omega (arith, c.authorities.ensures.count, c.if-count-authorities.false) in
    subst (λ r. IsBootSaid r places (record {
      answer = c.state_number.result;
      old = record { view = c.args.view.now; authorities = c.args.authorities.now; count = c.args.count.now; at = c.args.at.now };
      new = record { view = c.boot_view.result; authorities = c.authorities-in-Ok.new.places; count = c.authorities.result; at = c.args.at.now };
    }))
    (sym said.1) (inl (
      c.state_number.ensures ∙ ap state_number said.2.state,
      c.boot_view.ensures ∙ same_view said.0 c.in-Ok.found said.2,
      record {
        bytes = c.authorities-in-Ok.ensures.places ∙ all_written places c.args.authorities.now fits;
        count_is = c.authorities.ensures.count;
      },
      refl,
    ))
