-- What commands do to NV memory leaves it as a device may have it.
use Rattle.std.proofs.Common.{◌≡◌, ℕ, ◌+◌, ◌*◌, ◌^◌, ◌-◌, ◌<◌, ◌≤◌, min, max, List, [], ◌∷◌, ◌++◌, length}
use Rattle.std.proofs.Common.{Ok, Option, Some, None, Bool, true, false, not, bit_and, bit_or, is_some, refl, sym, ap}
use Rattle.std.proofs.Common.{◌∙◌, subst, arith}
use Rattle.std.proofs.lemmas.Nat.Bits.{same_from_bits, bit_at_and, bit_at_or, bit_at-zero, bit_at-lt, and_high}
use Rattle.std.proofs.lemmas.Bool.{and_parts, and_from, eq-eqb}
use Rattle.std.proofs.lemmas.Bool.Decides.{nat_tests}
use Rattle.std.specs.Prelude.{◌==◌, ◌&&◌, if◌then◌else◌, nat_lt}
use Rattle.std.specs.Int.{bit_at}
use Rattle.tpm_wire.specs.Reading.{◌>>=◌}
use Rattle.tpm_wire.specs.ResponseCodes.{rc_attributes, rc_nv_defined, rc_nv_range, rc_size}
use Rattle.tpm_wire.proofs.Agreement.{bind_ok}
use Rattle.tpm_types.specs.declared.tpms.NvPublic.{NvPublic}
use Rattle.tpm_types.specs.Alg.{digest_len}
use Rattle.tpm_types.specs.Tpma.{mask, nv_type, is_counter, is_written, with_written, is_writable, is_readable}
use Rattle.tpm_hmac.specs.Sessions.{trim}
use Rattle.tpm_model.specs.Counters.{Counter, has_index, counter_in, without, next_value, value_of, written, incremented}
use Rattle.tpm_model.specs.Counters.{with_increment}
use Rattle.tpm_model.specs.Authorization.{refuse, is_empty}
use Rattle.tpm_model.specs.Actions.{is_definable, counter_size}
use Rattle.tpm_model.specs.Kept.{is_kept_attrs, IsKept, is_above, check_counters}

-- ---- attributes

abbrev bit : ℕ → ℕ → ℕ
bit = bit_at

-- A part of bits that are clear is clear.
and_part : (n m k : ℕ) → bit_and n m ≡ 0 → bit_and k m ≡ k → bit_and n k ≡ 0
and_part n m k none part = same_from_bits (bit_and n k) 0 (λ i.
    let one : min (bit n i) (bit m i) ≡ 0 = sym (bit_at_and n m i) ∙ ap (λ x. bit x i) none ∙ bit_at-zero i in
    let two : min (bit k i) (bit m i) ≡ bit k i = sym (bit_at_and k m i) ∙ ap (λ x. bit x i) part in
    let three : min (bit n i) (bit k i) ≡ 0 = omega (arith, one, two) in
    bit_at_and n k i ∙ three ∙ sym (bit_at-zero i))

-- Bits that are set elsewhere change nothing here.
and_beside : (n a m : ℕ) → bit_and a m ≡ 0 → bit_and (bit_or n a) m ≡ bit_and n m
and_beside n a m none = same_from_bits (bit_and (bit_or n a) m) (bit_and n m) (λ i.
    let one : min (bit a i) (bit m i) ≡ 0 = sym (bit_at_and a m i) ∙ ap (λ x. bit x i) none ∙ bit_at-zero i in
    let two : min (max (bit n i) (bit a i)) (bit m i) ≡ min (bit n i) (bit m i) =
    omega (arith, one, bit_at-lt n i, bit_at-lt a i, bit_at-lt m i) in
    bit_at_and (bit_or n a) m i ∙ ap (λ x. min x (bit m i)) (bit_at_or n a i) ∙ two ∙ sym (bit_at_and n m i))

-- Bits that are set are there.
and_there : (n a : ℕ) → bit_and (bit_or n a) a ≡ a
and_there n a = same_from_bits (bit_and (bit_or n a) a) a (λ i.
    let two : min (max (bit n i) (bit a i)) (bit a i) ≡ bit a i = omega (arith, bit_at-lt n i, bit_at-lt a i) in
    bit_at_and (bit_or n a) a i ∙ ap (λ x. min x (bit a i)) (bit_at_or n a i) ∙ two)

pub is_written_now : (n : ℕ) → is_written (with_written n) ≡ true
is_written_now n = ap (λ x. not (x == 0)) (and_there n (mask (29 ∷ [])))

same_type : (n : ℕ) → nv_type (with_written n) ≡ nv_type n
same_type n =
    let same : nv_type (with_written n) * 2 ^ 4 ≡ nv_type n * 2 ^ 4 =
    sym (and_high (with_written n) 4 4) ∙ and_beside n (mask (29 ∷ [])) (2 ^ (4 + 4) - 2 ^ 4) refl ∙ and_high n 4 4 in
    omega (arith, same)

abbrev never_set : ℕ
never_set = mask (10 ∷ 11 ∷ 26 ∷ 27 ∷ 28 ∷ 30 ∷ [])

abbrev undefinable : ℕ
undefinable = mask (10 ∷ 11 ∷ 26 ∷ 27 ∷ 28 ∷ 29 ∷ 30 ∷ [])

pub written_attrs : (n : ℕ) → is_kept_attrs (with_written n) ≡ is_kept_attrs n
written_attrs n =
    let w = mask (29 ∷ []) in
    ap (λ t. (t == 1) && not (not (bit_and (with_written n) never_set == 0)) && is_writable (with_written n) && is_readable (with_written n)) (same_type n)
    ∙ ap (λ x. is_counter n && not (not (x == 0)) && is_writable (with_written n) && is_readable (with_written n)) (and_beside n w never_set refl)
    ∙ ap (λ x. is_counter n && not (not (bit_and n never_set == 0)) && not (x == 0) && is_readable (with_written n))
    (and_beside n w (mask (0 ∷ 1 ∷ 2 ∷ 3 ∷ [])) refl)
    ∙ ap (λ x. is_counter n && not (not (bit_and n never_set == 0)) && is_writable n && not (x == 0))
    (and_beside n w (mask (16 ∷ 17 ∷ 18 ∷ 19 ∷ [])) refl)

none_set : (n m : ℕ) → not (not (bit_and n m == 0)) ≡ true → bit_and n m ≡ 0
none_set n m e = grind (arith, nat_tests, e)

pub definable_attrs : (n : ℕ) → is_definable n ≡ true → (is_kept_attrs n ≡ true) × (is_written n ≡ false)
definable_attrs n e =
    let a = and_parts _ _ e in
    let b = and_parts _ _ a.0 in
    let c = and_parts _ _ b.0 in
    let none = none_set n undefinable c.1 in
    let never = and_part n undefinable never_set none refl in (
      and_from _ _ (and_from _ _ (and_from _ _ c.0 (ap (λ x. not (not (x == 0))) never)) b.1) a.1,
      ap (λ x. not (x == 0)) (and_part n undefinable (mask (29 ∷ [])) none refl),
    )

-- ---- a counter

-- a counter that was just defined
pub defined_kept : (auth : List ℕ) (public : NvPublic) → is_definable public.attrs ≡ true → length auth ≤ digest_len public.alg → trim auth ≡ auth
    → (not (is_empty public.policy) && not (length public.policy == digest_len public.alg)) ≡ false → public.data_size ≡ counter_size
    → IsKept (record { public = public; auth = auth; value = None })
defined_kept auth public is short trimmed policy size =
    let attrs = definable_attrs public.attrs is in
    let sized : (public.data_size == counter_size) ≡ true = eq-eqb public.data_size counter_size size in
    let few : nat_lt (digest_len public.alg) (length auth) ≡ false = grind (arith, nat_tests, short) in
    let same : (length (trim auth) == length auth) ≡ true = eq-eqb (length (trim auth)) (length auth) (ap length trimmed) in
    record {
      public = rw (attrs.0, policy, sized) refl;
      auth = rw (few, same) refl;
      written = attrs.1;
      above = tt;
    }

-- a counter that was just incremented
pub incremented_kept : (c : Counter) (v : ℕ) → IsKept c → 0 < v → IsKept (record { public = written c.public; auth = c.auth; value = Some v })
incremented_kept c v k above = record {
  public =
      ap (λ b. refuse (not b) rc_attributes >>= λ _.
      (refuse (not (is_empty c.public.policy) && not (length c.public.policy == digest_len c.public.alg)) rc_size >>= λ _.
      refuse (not (c.public.data_size == counter_size)) rc_size)) (written_attrs c.public.attrs) ∙ k.public;
  auth = k.auth;
  written = is_written_now c.public.attrs;
  above = above;
}

-- ---- among counters

pub refused_none : (b : Bool) (code : ℕ) (u : Unit {0}) → refuse b code ≡ Ok u → b ≡ false
refused_none true code u e = absurd (let z : ⊥ = cc in z)
refused_none false code u e = refl

pub is_none : (x : Option Counter) → is_some x ≡ false → x ≡ None
is_none None e = refl
is_none (Some c) e = absurd (let z : ⊥ = cc in z)

-- a counter before others, of which none is of the index
pub or_others : (i : ℕ) (c : Counter) (others : Option Counter) → (if has_index i c then Some c else others) ≡ None
    → (has_index i c ≡ false) × (others ≡ None)
or_others i c others none =
    elim (has_index i c) as
    (λ b. has_index i c ≡ b → (if b then Some c else others) ≡ None → (has_index i c ≡ false) × (others ≡ None)) [
      | true ↦ λ is e. absurd (let k : ⊥ = cc in k)
      | false ↦ λ is e. (is, e)
    ] refl none

pub found_after : (i : ℕ) (xs ys : List Counter) → counter_in xs i ≡ None → counter_in (xs ++ ys) i ≡ counter_in ys i
found_after i [] ys none = refl
found_after i (x ∷ xs) ys none = let both = or_others i x (counter_in xs i) none in rw both.0 (found_after i xs ys both.1)

-- what is checked of a counter before others
pub record Checked (greatest : ℕ) (c : Counter) (counters : List Counter) : Type 0 where
  pub once : counter_in counters c.public.index ≡ None
  pub below : is_above greatest c.value ≡ false
  pub others : check_counters greatest counters ≡ Ok tt

pub checked : (greatest : ℕ) (c : Counter) (counters : List Counter) → check_counters greatest (c ∷ counters) ≡ Ok tt → Checked greatest c counters
checked greatest c counters e =
    let a = bind_ok (refuse (is_some (counter_in counters c.public.index)) rc_nv_defined) _ tt e in
    let b = bind_ok (refuse (is_above greatest c.value) rc_nv_range) _ tt a.2 in
    record {
      once = is_none (counter_in counters c.public.index) (refused_none _ _ a.0 a.1);
      below = refused_none _ _ b.0 b.1;
      others = b.2;
    }

check_more : (greatest : ℕ) (c : Counter) (counters : List Counter) → counter_in counters c.public.index ≡ None → is_above greatest c.value ≡ false
    → check_counters greatest counters ≡ Ok tt → check_counters greatest (c ∷ counters) ≡ Ok tt
check_more greatest c counters once below others = rw (once, below) others

-- the same under a greater value
still_below : (least most : ℕ) (value : Option ℕ) → least ≤ most → is_above least value ≡ false → is_above most value ≡ false
still_below least most None le e = refl
still_below least most (Some v) le e = grind (arith, nat_tests, le, e)

checked_under : (least most : ℕ) (counters : List Counter) → least ≤ most → check_counters least counters ≡ Ok tt → check_counters most counters ≡ Ok tt
checked_under least most [] le e = refl
checked_under least most (c ∷ counters) le e =
    let h = checked least c counters e in
    check_more most c counters h.once (still_below least most c.value le h.below) (checked_under least most counters le h.others)

-- ---- a definition

differs_too : (i : ℕ) (c : Counter) → has_index i c ≡ false → (i == c.public.index) ≡ false
differs_too i c e = grind (arith, nat_tests, e)

not_at_end : (d : Counter) (counters : List Counter) (i : ℕ) → counter_in counters i ≡ None → has_index i d ≡ false → counter_in (counters ++ d ∷ []) i ≡ None
not_at_end d counters i none other = found_after i counters (d ∷ []) none ∙ rw other refl

pub checked_defined : (greatest : ℕ) (counters : List Counter) (d : Counter) → check_counters greatest counters ≡ Ok tt
    → counter_in counters d.public.index ≡ None → d.value ≡ None → check_counters greatest (counters ++ d ∷ []) ≡ Ok tt
checked_defined greatest [] d e new none = check_more greatest d [] refl (ap (is_above greatest) none) refl
checked_defined greatest (c ∷ counters) d e new none =
    let h = checked greatest c counters e in
    let both = or_others d.public.index c (counter_in counters d.public.index) new in
    check_more greatest c (counters ++ d ∷ []) (not_at_end d counters c.public.index h.once (differs_too d.public.index c both.0)) h.below
    (checked_defined greatest counters d h.others both.1 none)

-- ---- an undefinition

not_within : (i j : ℕ) (counters : List Counter) → counter_in counters j ≡ None → counter_in (without i counters) j ≡ None
not_within i j [] e = refl
not_within i j (c ∷ counters) e =
    let both = or_others j c (counter_in counters j) e in go (has_index i c) refl both.0 (not_within i j counters both.1)
  where
    go : (b : Bool) → has_index i c ≡ b → has_index j c ≡ false → counter_in (without i counters) j ≡ None → counter_in (without i (c ∷ counters)) j ≡ None
    go true is other rest = rw is rest
    go false is other rest = rw (is, other) rest

pub checked_without : (greatest i : ℕ) (counters : List Counter) → check_counters greatest counters ≡ Ok tt
    → check_counters greatest (without i counters) ≡ Ok tt
checked_without greatest i [] e = refl
checked_without greatest i (c ∷ counters) e =
    let h = checked greatest c counters e in
    go (has_index i c) refl (not_within i c.public.index counters h.once) h.below (checked_without greatest i counters h.others)
  where
    go : (b : Bool) → has_index i c ≡ b → counter_in (without i counters) c.public.index ≡ None → is_above greatest c.value ≡ false
        → check_counters greatest (without i counters) ≡ Ok tt → check_counters greatest (without i (c ∷ counters)) ≡ Ok tt
    go true is once below rest = rw is rest
    go false is once below rest = rw is (check_more greatest c (without i counters) once below rest)

-- ---- an increment

not_raised : (i j greatest : ℕ) (counters : List Counter) → counter_in counters j ≡ None → counter_in (with_increment i greatest counters) j ≡ None
not_raised i j greatest [] e = refl
not_raised i j greatest (c ∷ counters) e =
    let both = or_others j c (counter_in counters j) e in go (has_index i c) refl both.0 both.1 (not_raised i j greatest counters both.1)
  where
    go : (b : Bool) → has_index i c ≡ b → has_index j c ≡ false → counter_in counters j ≡ None → counter_in (with_increment i greatest counters) j ≡ None
        → counter_in (with_increment i greatest (c ∷ counters)) j ≡ None
    go true is other none rest = rw (is, other) none
    go false is other none rest = rw (is, other) rest

pub checked_incremented : (i greatest most : ℕ) (counters : List Counter) → greatest ≤ most
    → next_value greatest (value_of (counter_in counters i)) ≤ most → check_counters greatest counters ≡ Ok tt
    → check_counters most (with_increment i greatest counters) ≡ Ok tt
checked_incremented i greatest most [] le next e = refl
checked_incremented i greatest most (c ∷ counters) le next e =
    let h = checked greatest c counters e in
    go (has_index i c) refl h (λ few. checked_incremented i greatest most counters le few h.others)
  where
    go : (b : Bool) → has_index i c ≡ b → Checked greatest c counters
        → (next_value greatest (value_of (counter_in counters i)) ≤ most → check_counters most (with_increment i greatest counters) ≡ Ok tt)
        → check_counters most (with_increment i greatest (c ∷ counters)) ≡ Ok tt
    go true is h later =
        let given : value_of (counter_in (c ∷ counters) i) ≡ c.value = rw is refl in
        let few : next_value greatest c.value ≤ most = subst (λ v. next_value greatest v ≤ most) given next in
        let below : is_above most (Some (next_value greatest c.value)) ≡ false = grind (arith, nat_tests, few) in
        rw is (check_more most (incremented greatest c) counters h.once below (checked_under greatest most counters le h.others))
    go false is h later =
        let given : value_of (counter_in (c ∷ counters) i) ≡ value_of (counter_in counters i) = rw is refl in
        let few : next_value greatest (value_of (counter_in counters i)) ≤ most = subst (λ v. next_value greatest v ≤ most) given next in
        rw is (check_more most c (with_increment i greatest counters) (not_raised i c.public.index greatest counters h.once)
        (still_below greatest most c.value le h.below) (later few))
