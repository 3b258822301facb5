-- One register more of a selection.
use Rattle.std.proofs.Common.{◌≡◌, ℕ, zero, suc, List, [], ◌∷◌, ◌++◌, ◌<◌, ◌≤◌, ◌+◌, ◌-◌, ◌*◌, ◌%◌, ◌^◌, Bool, true}
use Rattle.std.proofs.Common.{false, bit_or, length, take, map, get_or, refl, sym, ap, ◌∙◌, arith, length-append}
use Rattle.std.proofs.Common.{append_assoc}
use Rattle.std.proofs.lemmas.List.Elements.{filter-append}
use Rattle.std.proofs.lemmas.List.FromFn.{get_or-range_with_len}
use Rattle.std.proofs.lemmas.List.{take_more, map-append, length-map, append-nil}
use Rattle.std.proofs.lemmas.Grind.{or_before_shift}
use Rattle.std.specs.Prelude.{filter}
use Rattle.tpm_types.specs.Tpma.{mask}
use Rattle.tpm_types.specs.Tpms.{is_selected}
use Rattle.tpm_pcr.specs.Registers.{all_registers}
use Rattle.tpm_pcr.specs.inner.Select.{registers_of, chosen, bits_of}

-- ---- lists

take_room : {A : Type 0} (m : ℕ) (xs : List A) (x : A) → length (take m xs) < m → take m (xs ++ x ∷ []) ≡ take m xs ++ x ∷ []
take_room zero xs x h = absurd (let k : ⊥ = omega (arith, h) in k)
take_room (suc zero) [] x h = refl
take_room (suc (suc m)) [] x h = refl
take_room {A} (suc m) (y ∷ xs) x h = ap (λ (l : List A). y ∷ l) (take_room m xs x (omega (arith, h)))

take_full : {A : Type 0} (m : ℕ) (xs : List A) (x : A) → m ≤ length (take m xs) → take m (xs ++ x ∷ []) ≡ take m xs
take_full zero xs x h = refl
take_full (suc m) [] x h = absurd (let k : ⊥ = omega (arith, h) in k)
take_full {A} (suc m) (y ∷ xs) x h = ap (λ (l : List A). y ∷ l) (take_full m xs x (omega (arith, h)))

mask_more : (bs : List ℕ) (b : ℕ) → mask (bs ++ b ∷ []) ≡ mask bs + 2 ^ b
mask_more [] b = omega arith
mask_more (c ∷ bs) b = omega (arith, mask_more bs b)

-- ---- bits

or_bit : (b x : ℕ) → b < 8 → x < 2 ^ b → bit_or x (1 * 2 ^ b % 256) ≡ x + 2 ^ b
or_bit zero x h k = or_before_shift x 1 1 256 refl k (omega arith) ∙ omega arith
or_bit (suc zero) x h k = or_before_shift x 1 2 256 refl k (omega arith) ∙ omega arith
or_bit (suc (suc zero)) x h k = or_before_shift x 1 4 256 refl k (omega arith) ∙ omega arith
or_bit (suc (suc (suc zero))) x h k = or_before_shift x 1 8 256 refl k (omega arith) ∙ omega arith
or_bit (suc (suc (suc (suc zero)))) x h k = or_before_shift x 1 16 256 refl k (omega arith) ∙ omega arith
or_bit (suc (suc (suc (suc (suc zero))))) x h k = or_before_shift x 1 32 256 refl k (omega arith) ∙ omega arith
or_bit (suc (suc (suc (suc (suc (suc zero)))))) x h k = or_before_shift x 1 64 256 refl k (omega arith) ∙ omega arith
or_bit (suc (suc (suc (suc (suc (suc (suc zero))))))) x h k = or_before_shift x 1 128 256 refl k (omega arith) ∙ omega arith
or_bit (suc (suc (suc (suc (suc (suc (suc (suc n)))))))) x h k = absurd (let z : ⊥ = omega (arith, h) in z)

small_more : (b x : ℕ) → b < 8 → x < 2 ^ b → x + 2 ^ b < 2 ^ (b + 1)
small_more zero x h k = omega (arith, k)
small_more (suc zero) x h k = omega (arith, k)
small_more (suc (suc zero)) x h k = omega (arith, k)
small_more (suc (suc (suc zero))) x h k = omega (arith, k)
small_more (suc (suc (suc (suc zero)))) x h k = omega (arith, k)
small_more (suc (suc (suc (suc (suc zero))))) x h k = omega (arith, k)
small_more (suc (suc (suc (suc (suc (suc zero)))))) x h k = omega (arith, k)
small_more (suc (suc (suc (suc (suc (suc (suc zero))))))) x h k = omega (arith, k)
small_more (suc (suc (suc (suc (suc (suc (suc (suc n)))))))) x h k = absurd (let z : ⊥ = omega (arith, h) in z)

-- ---- registers

register_at : (byte bit : ℕ) → bit < 8 → get_or (registers_of byte) bit 0 ≡ 8 * byte + bit
register_at byte zero h = refl
register_at byte (suc zero) h = refl
register_at byte (suc (suc zero)) h = refl
register_at byte (suc (suc (suc zero))) h = refl
register_at byte (suc (suc (suc (suc zero)))) h = refl
register_at byte (suc (suc (suc (suc (suc zero))))) h = refl
register_at byte (suc (suc (suc (suc (suc (suc zero)))))) h = refl
register_at byte (suc (suc (suc (suc (suc (suc (suc zero))))))) h = refl
register_at byte (suc (suc (suc (suc (suc (suc (suc (suc n)))))))) h = absurd (let z : ⊥ = omega (arith, h) in z)

one_more : (byte bit : ℕ) → bit < 8 → take (bit + 1) (registers_of byte) ≡ take bit (registers_of byte) ++ (8 * byte + bit) ∷ []
one_more byte bit h = take_more (registers_of byte) bit 0 h ∙ ap (λ (q : ℕ). take bit (registers_of byte) ++ q ∷ []) (register_at byte bit h)

pub filter_more : (p : ℕ → Bool) (qs : List ℕ) (q : ℕ) → p q ≡ true → filter p (qs ++ q ∷ []) ≡ filter p qs ++ q ∷ []
filter_more p qs q t = filter-append p qs (q ∷ []) ∙ rw t refl

pub filter_same : (p : ℕ → Bool) (qs : List ℕ) (q : ℕ) → p q ≡ false → filter p (qs ++ q ∷ []) ≡ filter p qs
filter_same p qs q t = filter-append p qs (q ∷ []) ∙ rw t (append-nil (filter p qs))

-- what is chosen of the registers of a byte below a bit
abbrev pub below : (values : ℕ) → List ℕ → (byte bit : ℕ) → List ℕ
below n select byte bit = chosen n select (take bit (registers_of byte))

-- a register that is selected, where there is room
pub chosen_more : (n : ℕ) (select : List ℕ) (byte bit : ℕ) → bit < 8 → length (below n select byte bit) < 8 - n → is_selected select (8 * byte + bit) ≡ true →
    below n select byte (bit + 1) ≡ below n select byte bit ++ (8 * byte + bit) ∷ []
chosen_more n select byte bit h room t =
    ap (λ (qs : List ℕ). take (8 - n) (filter (is_selected select) qs)) (one_more byte bit h)
    ∙ ap (take (8 - n)) (filter_more (is_selected select) (take bit (registers_of byte)) (8 * byte + bit) t)
    ∙ take_room (8 - n) (filter (is_selected select) (take bit (registers_of byte))) (8 * byte + bit) room

-- one that is not selected
pub chosen_same : (n : ℕ) (select : List ℕ) (byte bit : ℕ) → bit < 8 → is_selected select (8 * byte + bit) ≡ false
    → below n select byte (bit + 1) ≡ below n select byte bit
chosen_same n select byte bit h f =
    ap (λ (qs : List ℕ). take (8 - n) (filter (is_selected select) qs)) (one_more byte bit h)
    ∙ ap (take (8 - n)) (filter_same (is_selected select) (take bit (registers_of byte)) (8 * byte + bit) f)

-- any, where there is no room
pub chosen_full : (n : ℕ) (select : List ℕ) (byte bit : ℕ) → bit < 8 → 8 - n ≤ length (below n select byte bit)
    → below n select byte (bit + 1) ≡ below n select byte bit
chosen_full n select byte bit h full =
    ap (λ (qs : List ℕ). take (8 - n) (filter (is_selected select) qs)) (one_more byte bit h)
    ∙ elim (is_selected select (8 * byte + bit)) as (λ b. is_selected select (8 * byte + bit) ≡ b →
    take (8 - n) (filter (is_selected select) (take bit (registers_of byte) ++ (8 * byte + bit) ∷ [])) ≡ below n select byte bit) [
      | true ↦ λ t. ap (take (8 - n)) (filter_more (is_selected select) (take bit (registers_of byte)) (8 * byte + bit) t)
          ∙ take_full (8 - n) (filter (is_selected select) (take bit (registers_of byte))) (8 * byte + bit) full
      | false ↦ λ f. ap (take (8 - n)) (filter_same (is_selected select) (take bit (registers_of byte)) (8 * byte + bit) f)
    ] refl

pub bits_more : (qs : List ℕ) (byte bit bits : ℕ) → bit < 8 → bits ≡ bits_of qs → bits < 2 ^ bit
    → bit_or bits (1 * 2 ^ bit % 256) ≡ bits_of (qs ++ (8 * byte + bit) ∷ [])
bits_more qs byte bit bits h is small =
    or_bit bit bits h small ∙ ap (λ (x : ℕ). x + 2 ^ bit) is
    ∙ ap (λ (b : ℕ). bits_of qs + 2 ^ b) (let k : bit ≡ (8 * byte + bit) % 8 = omega (arith, h) in k)
    ∙ sym (mask_more (map (λ q. q % 8) qs) ((8 * byte + bit) % 8))
    ∙ ap mask (sym (map-append (λ (q : ℕ). q % 8) qs ((8 * byte + bit) ∷ [])))

pub small_still : (bit bits : ℕ) → bit < 8 → bits < 2 ^ bit → bit_or bits (1 * 2 ^ bit % 256) < 2 ^ (bit + 1)
small_still bit bits h small = omega (arith, or_bit bit bits h small, small_more bit bits h small)

pub smaller_still : (bit bits : ℕ) → bit < 8 → bits < 2 ^ bit → bits < 2 ^ (bit + 1)
smaller_still bit bits h small = omega (arith, small_more bit bits h small)

pub values_more : (value : ℕ → List ℕ) (old values : List (List ℕ)) (qs : List ℕ) (q : ℕ) (d : List ℕ) → d ≡ value q → values ≡ old ++ map value qs
    → values ++ d ∷ [] ≡ old ++ map value (qs ++ q ∷ [])
values_more value old values qs q d is held =
    ap (λ (l : List (List ℕ)). l ++ d ∷ []) held ∙ append_assoc old (map value qs) (d ∷ [])
    ∙ ap (λ (l : List (List ℕ)). old ++ l) (ap (λ (x : List ℕ). map value qs ++ x ∷ []) is ∙ sym (map-append value qs (q ∷ [])))

-- how many values there are
pub count_is : (value : ℕ → List ℕ) (old values : List (List ℕ)) (qs : List ℕ) → values ≡ old ++ map value qs → length values ≡ length old + length qs
count_is value old values qs held = ap length held ∙ length-append old (map value qs) ∙ ap (λ (k : ℕ). length old + k) (length-map qs value)

-- one of all registers more
pub register_more : (q : ℕ) → q < 24 → take (q + 1) all_registers ≡ take q all_registers ++ q ∷ []
register_more q h =
    take_more all_registers q 0 h
    ∙ ap (λ (r : ℕ). take q all_registers ++ r ∷ []) (let e : get_or all_registers q 0 ≡ 0 + q = get_or-range_with_len 0 24 q 0 h in e ∙ omega arith)
