-- The values of registers after changes.
use Rattle.std.proofs.Common.{◌≡◌, ℕ, ◌+◌, ◌-◌, ◌<◌, ◌≤◌, List, [], ◌∷◌, ◌++◌, map, take, replicate, true, false, refl}
use Rattle.std.proofs.Common.{sym, ap, ◌∙◌, arith}
use Rattle.std.proofs.lemmas.Bool.Decides.{nat_tests}
use Rattle.std.proofs.lemmas.List.Elements.{filter-append}
use Rattle.std.proofs.lemmas.List.{append-nil, map-append, take-replicate, drop-replicate}
use Rattle.std.specs.Prelude.{◌==◌, nat_le, nat_lt, ◌&&◌, filter, if◌then◌else◌}
use Rattle.tpm_types.specs.declared.alg.Alg.TheVariants.{Sha1}
use Rattle.tpm_types.specs.declared.alg.Alg.{Alg}
use Rattle.tpm_types.specs.Alg.{bank_place, digest_len}
use Rattle.tpm_types.specs.Limits.{banks}
use Rattle.tpm_types.proofs.Algs.{same_bank, same_test}
use Rattle.tpm_hmac.specs.Hashes.{digest}
use Rattle.tpm_pcr.specs.Registers.Change.{StartAt, Reset, Extend}
use Rattle.tpm_pcr.specs.Registers.{filled_with, zeros, extended, is_of, digests_for}
use Rattle.tpm_pcr.specs.Banks.{registers, offset_of, value_at}
use Rattle.tpm_pcr.specs.inner.Banks.{all_bytes, with_value, with_values, filled_but_last}
use Rattle.tpm_pcr.specs.inner.Banks.{Holds, changed}
use Rattle.tpm_pcr.proofs.Places.{fits}

-- ---- the start

pub filled_all : (byte : ℕ) (a : Alg) → filled_but_last byte byte a ≡ filled_with byte a
filled_all byte Sha1 = refl
filled_all byte a = refl

pub zeros_at : (a : Alg) (q : ℕ) → q < registers → value_at (replicate all_bytes 0) a q ≡ zeros a
unfolding value_at
zeros_at a q lt =
    ap (take (digest_len a)) (drop-replicate (offset_of a q) all_bytes 0)
    ∙ take-replicate (digest_len a) (all_bytes - offset_of a q) 0 (omega (arith, fits a q lt))

-- the value of a register while those of dynamic launch are filled, of which so many are done
abbrev pub starting : ℕ → Alg → ℕ → List ℕ
starting done a q = if nat_le 17 q && nat_lt q done then filled_with 0xFF a else zeros a

pub starting_start : (a : Alg) (q : ℕ) → zeros a ≡ starting 17 a q
starting_start a q = elim (nat_le 17 q) as (λ t. nat_le 17 q ≡ t → zeros a ≡ (if t && nat_lt q 17 then filled_with 0xFF a else zeros a)) [
  | true ↦ λ t. let f : nat_lt q 17 ≡ false = grind (arith, nat_tests) in rw f refl
  | false ↦ λ t. refl
] refl

-- ---- each bank

-- these values, but for one register in each of the first banks, so many of them
abbrev pub with_first : ℕ → ℕ → (Alg → List ℕ) → (Alg → ℕ → List ℕ) → Alg → ℕ → List ℕ
with_first n p value old a q = if nat_lt (bank_place a) n then with_values p value old a q else old a q

pub first_none : (p : ℕ) (value : Alg → List ℕ) (old : List ℕ) → Holds old (with_first 0 p value (value_at old))
first_none p value old a q lt = let none : nat_lt (bank_place a) 0 ≡ false = grind (arith, nat_tests) in rw none refl

pub first_more : (n p : ℕ) (b : Alg) (value : Alg → List ℕ) (old mid new : List ℕ) → bank_place b ≡ n → Holds mid (with_first n p value (value_at old)) →
    Holds new (with_value b p (value b) (value_at mid)) → Holds new (with_first (n + 1) p value (value_at old))
first_more n p b value old mid new place before more a q lt =
    more a q lt ∙ elim (bank_place b == bank_place a) as
    (λ t. (bank_place b == bank_place a) ≡ t →
    (if t then (if p == q then value b else value_at mid a q) else value_at mid a q) ≡ with_first (n + 1) p value (value_at old) a q) [
      | true ↦ λ t.
          let bank : bank_place b ≡ bank_place a = grind (arith, nat_tests) in
          let was : nat_lt (bank_place a) n ≡ false = grind (arith, nat_tests) in
          let is : nat_lt (bank_place a) (n + 1) ≡ true = grind (arith, nat_tests) in
          rw (is, same_bank b a bank) (ap (λ (x : List ℕ). if p == q then value a else x) (before a q lt ∙ rw was refl))
      | false ↦ λ t.
          let same : nat_lt (bank_place a) (n + 1) ≡ nat_lt (bank_place a) n = grind (arith, nat_tests) in
          before a q lt ∙ rw same refl
    ] refl

pub first_all : (n p : ℕ) (value : Alg → List ℕ) (old new : List ℕ) → banks ≤ n → Holds new (with_first n p value (value_at old))
    → Holds new (with_values p value (value_at old))
first_all n p value old new all is a q lt =
    let each : nat_lt (bank_place a) n ≡ true = grind (arith, nat_tests) in
    is a q lt ∙ rw each refl

-- ---- extending

extended_more : (a : Alg) (old : List ℕ) (ds : List (List ℕ)) (d : List ℕ) → extended a old (ds ++ d ∷ []) ≡ digest a (extended a old ds ++ d)
extended_more a old [] d = refl
extended_more a old (x ∷ ds) d = extended_more a (digest a (old ++ x)) ds d

digests_more : (a : Alg) (ds : List (Alg × List ℕ)) (e : Alg × List ℕ) → is_of a e ≡ true → digests_for a (ds ++ e ∷ []) ≡ digests_for a ds ++ e.1 ∷ []
digests_more a ds e is =
    ap (map (λ (d : Alg × List ℕ). d.1)) (filter-append (is_of a) ds (e ∷ []) ∙ rw is refl)
    ∙ map-append (λ (d : Alg × List ℕ). d.1) (filter (is_of a) ds) (e ∷ [])

digests_same : (a : Alg) (ds : List (Alg × List ℕ)) (e : Alg × List ℕ) → is_of a e ≡ false → digests_for a (ds ++ e ∷ []) ≡ digests_for a ds
digests_same a ds e is = ap (map (λ (d : Alg × List ℕ). d.1)) (filter-append (is_of a) ds (e ∷ []) ∙ rw is (append-nil (filter (is_of a) ds)))

pub extend_more : (p : ℕ) (old mid new : List ℕ) (ds : List (Alg × List ℕ)) (e : Alg × List ℕ) → Holds mid (changed (Extend p ds) old) →
    Holds new (with_value e.0 p (digest e.0 (value_at mid e.0 p ++ e.1)) (value_at mid)) → Holds new (changed (Extend p (ds ++ e ∷ [])) old)
extend_more p old mid new ds e before more a q lt =
    let written = digest e.0 (value_at mid e.0 p ++ e.1) in
    more a q lt ∙ elim (bank_place e.0 == bank_place a) as
    (λ t. (bank_place e.0 == bank_place a) ≡ t →
    (if t then (if p == q then written else value_at mid a q) else value_at mid a q) ≡ changed (Extend p (ds ++ e ∷ [])) old a q) [
      | true ↦ λ t.
          let bank : bank_place e.0 ≡ bank_place a = grind (arith, nat_tests) in
          let is : is_of a e ≡ true = same_test a e.0 ∙ t in
          elim (p == q) as (λ u. (p == q) ≡ u → value_at mid a q ≡ (if u then extended a (value_at old a q) (digests_for a ds) else value_at old a q) →
          (if u then written else value_at mid a q) ≡ (if u then extended a (value_at old a q) (digests_for a (ds ++ e ∷ [])) else value_at old a q)) [
            | true ↦ λ u was.
                let register : p ≡ q = grind (arith, nat_tests) in
                ap (λ (r : ℕ). digest e.0 (value_at mid e.0 r ++ e.1)) register ∙ ap (λ (b : Alg). digest b (value_at mid b q ++ e.1)) (same_bank e.0 a bank)
                ∙ ap (λ (x : List ℕ). digest a (x ++ e.1)) was ∙ sym (extended_more a (value_at old a q) (digests_for a ds) e.1)
                ∙ ap (extended a (value_at old a q)) (sym (digests_more a ds e is))
            | false ↦ λ u was. was
          ] refl (before a q lt)
      | false ↦ λ t.
          let is : is_of a e ≡ false = same_test a e.0 ∙ t in
          before a q lt ∙ ap (λ (xs : List (List ℕ)). if p == q then extended a (value_at old a q) xs else value_at old a q) (sym (digests_same a ds e is))
    ] refl

-- ---- resetting

pub reset_is : (p : ℕ) (old new : List ℕ) → Holds new (with_values p (filled_but_last 0 0) (value_at old)) → Holds new (changed (Reset p) old)
reset_is p old new written a q lt = written a q lt ∙ ap (λ (x : List ℕ). if p == q then x else value_at old a q) (filled_all 0 a)

zero_first : (q : ℕ) → (0 == q) ≡ (q == 0)
zero_first q = elim (q == 0) as (λ t. (q == 0) ≡ t → (0 == q) ≡ t) [ true ↦ λ t. grind (arith, nat_tests) | false ↦ λ t. grind (arith, nat_tests) ] refl

pub start_is : (locality : ℕ) (old new : List ℕ) → Holds new (with_values 0 (filled_but_last 0 locality) (value_at old))
    → Holds new (changed (StartAt locality) old)
start_is locality old new written a q lt = written a q lt ∙ rw (zero_first q) refl
