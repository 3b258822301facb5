-- Bytes that are compared by their XOR.
use Rattle.std.proofs.Common.{◌≡◌, ℕ, List, ◌∷◌, length, bit_or, bit_xor, refl, sym, ap, ◌∙◌, arith}
use Rattle.std.proofs.lemmas.List.{nil_from_length}
use Rattle.std.proofs.lemmas.Nat.{le_or_l, le_or_r}
use Rattle.std.specs.Int.Bits.{xor_assoc, xor_self, xor_zero_l, xor_zero_r}

xor_none : (x y : ℕ) → bit_xor x y ≡ 0 → x ≡ y
xor_none x y none = sym (xor_zero_r x) ∙ ap (bit_xor x) (sym (xor_self y)) ∙ sym (xor_assoc x y y) ∙ ap (λ (n : ℕ). bit_xor n y) none ∙ xor_zero_l y

-- lists that begin with no difference go on with none
pub none_behind : (d x y : ℕ) (xs ys : List ℕ) → d ≡ 0 → x ∷ xs ≡ y ∷ ys → (bit_or d (bit_xor x y) ≡ 0) × (xs ≡ ys)
none_behind d x y xs ys none same =
    let x_is : x ≡ y = cc in
    (rw (none, x_is, xor_self y) refl, cc)

-- where there is no difference after a byte, there was none before it, and the bytes are the same
pub none_before : (d x y : ℕ) (xs ys : List ℕ) → bit_or d (bit_xor x y) ≡ 0 → xs ≡ ys → (d ≡ 0) × (x ∷ xs ≡ y ∷ ys)
none_before d x y xs ys none same =
    let right : bit_xor x y ≡ 0 = omega (arith, le_or_r d (bit_xor x y)) in
    let x_is : x ≡ y = xor_none x y right in
    (omega (arith, le_or_l d (bit_xor x y)), cc)

pub both_nothing : (xs ys : List ℕ) → length xs ≡ length ys → length xs ≡ 0 → xs ≡ ys
both_nothing xs ys long none = nil_from_length xs none ∙ sym (nil_from_length ys (sym long ∙ none))
