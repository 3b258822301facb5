-- Bytes of the code have 8 bits each.
use Rattle.std.proofs.Common.{◌≡◌, ℕ, suc, true, List, [], ◌∷◌, refl, get_or, Fits, w8}
use Rattle.std.proofs.lemmas.Bool.{and_from, lt-ltb}
use Rattle.std.specs.Prelude.{nat_lt}
use Rattle.tpm_output.specs.Fits.{are_bytes}

pub bytes_fit : (bytes : List ℕ) → ((k : ℕ) → Fits w8 (get_or bytes k 0)) → are_bytes bytes ≡ true
bytes_fit [] each = refl
bytes_fit (x ∷ xs) each =
    and_from (nat_lt x 256) (are_bytes xs) (lt-ltb x 256 (each 0).fits) (bytes_fit xs (λ k. each (suc k)))
