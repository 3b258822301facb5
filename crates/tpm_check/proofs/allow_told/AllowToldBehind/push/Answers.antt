use Rattle.std.proofs.Common.{◌≡◌, ◌∙◌, true, List, ap, length, refl, sym}
use Rattle.std.specs.Prelude.{◌==◌}
use Rattle.tpm_vouched.specs.declared.allowed.AllowedDigest.{AllowedDigest}
use Rattle.tpm_check.proofs.allow_told.AllowToldBehind.push.Goals as goal

pub returns-then-is_empty : goal.returns-then-is_empty
returns-then-is_empty c =
    let empty : (length c.args.self.now.list.now == 0) ≡ true =
    ap (λ (ds : List AllowedDigest). length ds == 0) (sym c.digests.ensures) ∙ sym c.is_empty.ensures ∙ c.if-is_empty.true in
    rw empty (refl, c.in_ok-push_fault.ensures)
