-- The value of a counter, in the bytes in which it is kept.
use Rattle.std.proofs.Common.{◌≡◌, ℕ, ◌<◌, ◌^◌, List, Some, refl, arith}
use Rattle.std.proofs.lemmas.Bool.{ne_eqb}
use Rattle.std.proofs.lemmas.Nat.{from_be_bytes-to_be_bytes_8}
use Rattle.std.specs.Int.{to_be_bytes, w64}
use Rattle.tpm_nv.specs.Definitions.{value_in}

pub value_kept : (v : ℕ) (bytes : List ℕ) → 0 < v → v < 2 ^ 64 → bytes ≡ to_be_bytes w64 v → value_in bytes ≡ Some v
value_kept v bytes above few is =
    rw (is, from_be_bytes-to_be_bytes_8 v few, ne_eqb v 0 (λ e. let k : ⊥ = omega (arith, e, above) in k)) refl
