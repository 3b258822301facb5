-- One register of a bank is written, and no other changes.
use Rattle.std.proofs.Common.{◌≡◌, ◌≢◌, ℕ, ◌+◌, ◌-◌, ◌*◌, ◌<◌, ◌≤◌, List, length, take, drop, true, false, refl, sym}
use Rattle.std.proofs.Common.{ap, ◌∙◌, arith, subst}
use Rattle.std.proofs.lemmas.Bool.Decides.{nat_tests}
use Rattle.std.proofs.lemmas.List.{drop-take}
use Rattle.std.proofs.lemmas.Slice.{take-put_mid_below, drop-put_mid, between-put_mid}
use Rattle.std.specs.Prelude.{◌==◌, nat_lt, if◌then◌else◌}
use borrow.Rule.Slice.PartMut.{put_mid}
use Rattle.tpm_types.specs.declared.alg.Alg.{Alg}
use Rattle.tpm_types.specs.Alg.{bank_place, digest_len}
use Rattle.tpm_types.proofs.Algs.{same_bank}
use Rattle.tpm_pcr.specs.Banks.{registers, offset_of, value_at}
use Rattle.tpm_pcr.specs.inner.Banks.{all_bytes, with_value, Holds}

-- ---- places

-- the registers of all banks in the order of their places
abbrev number_of : Alg → ℕ → ℕ
number_of alg q = registers * bank_place alg + q

-- an earlier register ends before a later one
apart : (a b : Alg) (q p : ℕ) → q < registers → p < registers → number_of a q < number_of b p → offset_of a q + digest_len a ≤ offset_of b p
apart a b q p q_lt p_lt before = grind arith

pub fits : (a : Alg) (q : ℕ) → q < registers → offset_of a q + digest_len a ≤ all_bytes
fits a q q_lt = grind arith

-- ---- parts of a list

part_before : (xs v : List ℕ) (at n p m : ℕ) → p + m ≤ at → at ≤ length xs → take m (drop p (put_mid at n xs v)) ≡ take m (drop p xs)
part_before xs v at n p m before within =
    sym (drop-take p m (put_mid at n xs v)) ∙ ap (drop p) (take-put_mid_below at n xs v (p + m) before within) ∙ drop-take p m xs

part_after : (xs v : List ℕ) (at n p m : ℕ) → at + n ≤ p → at ≤ length xs → length v ≡ n → take m (drop p (put_mid at n xs v)) ≡ take m (drop p xs)
part_after xs v at n p m after within long = ap (take m) (drop-put_mid at n xs v p after within long)

part_here : (xs v : List ℕ) (at n : ℕ) → at ≤ length xs → length v ≡ n → take n (drop at (put_mid at n xs v)) ≡ v
part_here xs v at n within long =
    let size : at + n - at ≡ n = omega arith in
    ap (λ (k : ℕ). take k (drop at (put_mid at n xs v))) (sym size) ∙ between-put_mid at n xs v (at + n) within (long ∙ sym size)

-- ---- a value

other : (b a : Alg) (p q : ℕ) (bytes v : List ℕ) → length bytes ≡ all_bytes → p < registers → q < registers → length v ≡ digest_len b
    → number_of a q ≢ number_of b p →
    value_at (put_mid (offset_of b p) (digest_len b) bytes v) a q ≡ value_at bytes a q
unfolding value_at
other b a p q bytes v whole p_lt q_lt long differ =
    let within : offset_of b p ≤ length bytes = omega (arith, fits b p p_lt, whole) in
    elim (nat_lt (number_of a q) (number_of b p)) as
    (λ t. nat_lt (number_of a q) (number_of b p) ≡ t → value_at (put_mid (offset_of b p) (digest_len b) bytes v) a q ≡ value_at bytes a q) [
      | true ↦ λ t.
          let before : number_of a q < number_of b p = grind (arith, nat_tests) in
          part_before bytes v (offset_of b p) (digest_len b) (offset_of a q) (digest_len a) (apart a b q p q_lt p_lt before) within
      | false ↦ λ t.
          let after : number_of b p < number_of a q = grind (arith, nat_tests) in
          part_after bytes v (offset_of b p) (digest_len b) (offset_of a q) (digest_len a) (apart b a p q p_lt q_lt after) within long
    ] refl

here : (b : Alg) (p : ℕ) (bytes v : List ℕ) → length bytes ≡ all_bytes → p < registers → length v ≡ digest_len b
    → value_at (put_mid (offset_of b p) (digest_len b) bytes v) b p ≡ v
unfolding value_at
here b p bytes v whole p_lt long = part_here bytes v (offset_of b p) (digest_len b) (omega (arith, fits b p p_lt, whole)) long

-- where the value of one register is written, it has that value, and each other its own
pub written : (b : Alg) (p : ℕ) (bytes v : List ℕ) → length bytes ≡ all_bytes → p < registers → length v ≡ digest_len b →
    Holds (put_mid (offset_of b p) (digest_len b) bytes v) (with_value b p v (value_at bytes))
written b p bytes v whole p_lt long a q q_lt =
    let new = put_mid (offset_of b p) (digest_len b) bytes v in
    elim (bank_place b == bank_place a) as
    (λ t. (bank_place b == bank_place a) ≡ t → value_at new a q ≡ (if t then (if p == q then v else value_at bytes a q) else value_at bytes a q)) [
      | true ↦ λ t. elim (p == q) as (λ u. (p == q) ≡ u → value_at new a q ≡ (if u then v else value_at bytes a q)) [
        | true ↦ λ u.
            let bank : bank_place b ≡ bank_place a = grind (arith, nat_tests) in
            let register : p ≡ q = grind (arith, nat_tests) in
            subst (λ (c : Alg). value_at new c q ≡ v) (same_bank b a bank) (subst (λ (r : ℕ). value_at new b r ≡ v) register (here b p bytes v whole p_lt long))
        | false ↦ λ u. let differ : number_of a q ≢ number_of b p = grind (arith, nat_tests) in other b a p q bytes v whole p_lt q_lt long differ
      ] refl
      | false ↦ λ t. let differ : number_of a q ≢ number_of b p = grind (arith, nat_tests) in other b a p q bytes v whole p_lt q_lt long differ
    ] refl
