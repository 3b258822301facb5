-- A key in a block.
use Rattle.std.proofs.Common.{◌≡◌, ℕ, ◌+◌, ◌-◌, ◌≤◌, List, ◌++◌, length, take, drop, replicate, length-append}
use Rattle.std.proofs.Common.{append_assoc, refl, sym, ap, ◌∙◌, arith}
use Rattle.std.proofs.Math.Seq.{take-append-add}
use Rattle.std.proofs.lemmas.List.{take_at, drop_at, drop-drop, drop-replicate, take-replicate}
use Rattle.tpm_hmac.specs.Hmac.{filled}

-- what is left of the zeros behind two parts that were written one after the other
pub fill_both : (n : ℕ) (front back one both : List ℕ) → length front + length back ≤ n → one ≡ front ++ drop (0 + length front) (replicate n 0)
    → both ≡ take (length front) one ++ (back ++ drop (length front + length back) one) → both ≡ filled n (front ++ back)
fill_both n front back one both fits first second =
    let start : 0 + length front ≡ length front = omega arith in
    let first = rw start at first in
    let kept : take (length front) one ≡ front = rw first (take_at front (drop (length front) (replicate n 0)) (length front) refl) in
    let behind : drop (length front) one ≡ replicate (n - length front) 0 =
    rw first (drop_at front (drop (length front) (replicate n 0)) (length front) refl ∙ drop-replicate (length front) n 0) in
    let left : drop (length front + length back) one ≡ replicate (n - length (front ++ back)) 0 =
    sym (drop-drop (length back) (length front) one) ∙ ap (drop (length back)) behind ∙ drop-replicate (length back) (n - length front) 0
    ∙ ap (λ (k : ℕ). replicate k 0) (rw (length-append front back) (omega arith)) in
    second ∙ rw (kept, left) (sym (append_assoc front back (replicate (n - length (front ++ back)) 0)))

-- a key in the longest block is one in a shorter block, and zeros behind it
pub fitted : (n m : ℕ) (key : List ℕ) → length key ≤ n → n ≤ m → take n (filled m key) ≡ filled n key
fitted n m key long fits =
    let there : n ≡ length key + (n - length key) = omega arith in
    ap (λ (k : ℕ). take k (filled m key)) there ∙ take-append-add key (replicate (m - length key) 0) (n - length key)
    ∙ ap (λ (zeros : List ℕ). key ++ zeros) (take-replicate (n - length key) (m - length key) 0 (omega arith))
