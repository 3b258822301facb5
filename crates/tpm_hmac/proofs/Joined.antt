-- Two parts, written one behind the other.
use Rattle.std.proofs.Common.{◌≡◌, ℕ, ◌+◌, ◌-◌, List, ◌++◌, length, take, drop, replicate, length-append, ◌∙◌, arith}
use Rattle.std.proofs.lemmas.List.{append-nil}
use Rattle.tpm_hmac.proofs.Filling.{fill_both}

-- parts that fill a list are all of it
pub both_fill : (n : ℕ) (front back one both : List ℕ) → length front + length back ≡ n → one ≡ front ++ drop (0 + length front) (replicate n 0)
    → both ≡ take (length front) one ++ (back ++ drop (length front + length back) one) → both ≡ front ++ back
both_fill n front back one both fits first second =
    let none : n - length (front ++ back) ≡ 0 = rw (length-append front back) (omega (arith, fits)) in
    fill_both n front back one both (omega (arith, fits)) first second ∙ rw none (append-nil (front ++ back))
