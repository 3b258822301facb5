-- Allowed digests in the chains of their buckets, one more.
use Rattle.std.proofs.Common.{◌≡◌, ◌<◌, ◌≤◌, ◌+◌, ℕ, Bool, true, false, eqb, List, [], ◌∷◌, ◌++◌, length, take, get_or}
use Rattle.std.proofs.Common.{replicate, set, refl, sym, ap, subst}
use Rattle.std.proofs.Common.{◌∙◌, arith}
use Rattle.std.proofs.lemmas.Bool.{and_parts, eq-eqb, eqb-true}
use Rattle.std.proofs.lemmas.List.{get_or_append_left, get_or_at, get_or_default, get_or-replicate, get_or-set_other, get_or-set_same}
use Rattle.std.proofs.lemmas.List.{length-append, length-replicate, length-set}
use Rattle.std.proofs.lemmas.List.{take_all, take_more}
use Rattle.std.proofs.lemmas.Slice.Eq.{bytes_eq-Decides}
use Rattle.std.specs.Prelude.{◌≢◌, ◌==◌, ◌&&◌, ◌||◌, nat_eq}
use Rattle.std.specs.Cmp.Lexicographic.{pointwise}
use Rattle.std.specs.List.{list_any}
use Rattle.tpm_types.specs.declared.alg.Alg.{Alg}
use Rattle.tpm_vouched.specs.declared.allowed.AllowedDigest.{AllowedDigest}
use Rattle.tpm_vouched.specs.Allowed.{is_for, names}
use Rattle.tpm_types.specs.Alg.{alg_number}
use Rattle.tpm_lists.specs.inner.AllowIndex.{AreBefore, AreChains, AreLast, ArePlaces, EndsAt, bucket, bucket_of, is_place, is_this}

pub swap : (a b rest : Bool) → (a || (b || rest)) ≡ (b || (a || rest))
swap true true rest = refl
swap true false rest = refl
swap false b rest = refl

pub any_behind : {X : Type 0} (p : X → Bool) (xs : List X) (x : X) → list_any p (xs ++ x ∷ []) ≡ (p x || list_any p xs)
any_behind p [] x = refl
any_behind p (y ∷ ys) x = ap (λ (b : Bool). p y || b) (any_behind p ys x) ∙ swap (p y) (p x) (list_any p ys)

below_of : (m n : ℕ) → m < n + 1 → (m ≡ n → ⊥) → m < n
below_of m n less other = omega (arith, less, other)

both_hold : (a b : Bool) → (a && b) ≡ true → b ≡ true
both_hold true b is = is
both_hold false b is = absurd cc

not_true : (b : Bool) → (b ≡ true → ⊥) → b ≡ false
not_true true isnt = absurd (isnt refl)
not_true false isnt = refl

module _ (bank : Alg) (register : ℕ) (digest : List ℕ) where
  -- A digest is in the bucket of the one that it is.
  in_bucket : (a : AllowedDigest) → is_this bank register digest a ≡ true → bucket_of a ≡ bucket digest
  in_bucket a is = ap bucket ((bytes_eq-Decides a.digest.1 digest).0 (both_hold (is_for bank register a) (pointwise nat_eq a.digest.1 digest) is))

  elsewhere : (a : AllowedDigest) → bucket_of a ≢ bucket digest → is_this bank register digest a ≡ false
  elsewhere a other = not_true (is_this bank register digest a) (λ is. other (in_bucket a is))

module _ (digests : List AllowedDigest) (n : ℕ) (a : AllowedDigest) (is : a ≡ get_or digests n a) (inside : n < length digests) where
  pub next : take (n + 1) digests ≡ take n digests ++ a ∷ []
  next = take_more digests n a inside ∙ ap (λ (d : AllowedDigest). take n digests ++ d ∷ []) (sym is)

  pub any_next : (test : AllowedDigest → Bool) → list_any test (take (n + 1) digests) ≡ (test a || list_any test (take n digests))
  any_next test = ap (list_any test) next ∙ any_behind test (take n digests) a

  -- it is the last one of its bucket
  pub ends_here : EndsAt digests (bucket_of a) (n + 1) (n + 1)
  ends_here = record {
    within = omega arith;
    finds = λ bank register digest lies. refl;
    last = λ m x place one.
        let k : m ≡ n = omega (arith, place) in
        ap bucket_of (one ∙ ap (λ (i : ℕ). get_or digests i x) k ∙ get_or_default digests n x a inside ∙ sym is);
  }

  -- and that of another stays the last one
  pub ends_there : (b place : ℕ) → bucket_of a ≢ b → EndsAt digests b n place → EndsAt digests b (n + 1) place
  ends_there b place other e = record {
    within = omega (arith, e.within);
    finds = λ bank register digest lies.
        let apart = elsewhere bank register digest a (λ same. other (same ∙ lies)) in
        any_next (is_this bank register digest)
        ∙ ap (λ (c : Bool). c || list_any (is_this bank register digest) (take n digests)) apart ∙ e.finds bank register digest lies;
    last = e.last;
  }

  last_more : (last : List ℕ) → length last ≡ 16384 → bucket_of a < 16384 → AreLast digests n last
      → AreLast digests (n + 1) (set last (bucket_of a) (n + 1))
  last_more last long below l = λ b less. go b less (eqb b (bucket_of a)) refl
    where
      go : (b : ℕ) → b < 16384 → (c : Bool) → eqb b (bucket_of a) ≡ c → EndsAt digests b (n + 1) (get_or (set last (bucket_of a) (n + 1)) b 0)
      go b less true same =
          let k : bucket_of a ≡ b = sym (eqb-true b (bucket_of a) same) in
          let end : n + 1 ≡ get_or (set last (bucket_of a) (n + 1)) (bucket_of a) 0 =
          sym (get_or-set_same last (bucket_of a) (n + 1) 0 (omega (arith, long, below))) in
          subst (λ (i : ℕ). EndsAt digests i (n + 1) (get_or (set last (bucket_of a) (n + 1)) i 0)) k
          (subst (λ (place : ℕ). EndsAt digests (bucket_of a) (n + 1) place) end ends_here)
      go b less false other =
          let apart : b ≢ bucket_of a = λ k. absurd (let t : true ≡ false = sym (eq-eqb b (bucket_of a) k) ∙ other in cc) in
          subst (λ (place : ℕ). EndsAt digests b (n + 1) place) (sym (get_or-set_other last (bucket_of a) b (n + 1) 0 apart))
          (ends_there b (get_or last b 0) (λ k. apart (sym k)) (l b less))

  pub chains_more : (last before : List ℕ) → bucket_of a < 16384 → AreChains digests n last before
      → AreChains digests (n + 1) (set last (bucket_of a) (n + 1)) (before ++ get_or last (bucket_of a) 0 ∷ [])
  chains_more last before below c = record {
    buckets = length-set last (bucket_of a) (n + 1) ∙ c.buckets;
    long = omega (arith, c.long, length-append before (get_or last (bucket_of a) 0 ∷ []));
    ends = last_more last c.buckets below c.ends;
    each = λ m x less one. go m x less one (eqb m n) refl;
  }
    where
      end : ℕ
      end = get_or last (bucket_of a) 0

      go : (m : ℕ) (x : AllowedDigest) → m < n + 1 → x ≡ get_or digests m x → (b : Bool) → eqb m n ≡ b
          → EndsAt digests (bucket_of x) m (get_or (before ++ end ∷ []) m 0)
      go m x less one true same =
          let k : n ≡ m = sym (eqb-true m n same) in
          let there : end ≡ get_or (before ++ end ∷ []) n 0 = sym (get_or_at before end [] 0 n c.long) in
          let found : a ≡ x =
          is ∙ get_or_default digests n a x inside ∙ ap (λ (i : ℕ). get_or digests i x) k ∙ sym one in
          subst (λ (y : AllowedDigest). EndsAt digests (bucket_of y) m (get_or (before ++ end ∷ []) m 0)) found
          (subst (λ (i : ℕ). EndsAt digests (bucket_of a) i (get_or (before ++ end ∷ []) i 0)) k
          (subst (λ (place : ℕ). EndsAt digests (bucket_of a) n place) there (c.ends (bucket_of a) below)))
      go m x less one false other =
          let apart : m < n = below_of m n less (λ k. absurd (let t : true ≡ false = sym (eq-eqb m n k) ∙ other in cc)) in
          subst (λ (place : ℕ). EndsAt digests (bucket_of x) m place) (sym (get_or_append_left before (end ∷ []) 0 m (omega (arith, apart, c.long))))
          (c.each m x apart one)

-- the same of a bucket that was looked for
pub chains_next : (digests : List AllowedDigest) (n : ℕ) (a : AllowedDigest) → a ≡ get_or digests n a → n < length digests → (last before : List ℕ)
    (b end place : ℕ) → b ≡ bucket_of a → b < 16384 → end ≡ get_or last b 0 → place ≡ n + 1 → AreChains digests n last before
    → AreChains digests (n + 1) (set last b place) (before ++ end ∷ [])
chains_next digests n a is inside last before b end place bucket-is below end-is place-is c =
    rw (end-is, place-is, bucket-is)
    (chains_more digests n a is inside last before (subst (λ (i : ℕ). i < 16384) bucket-is below) c)

-- no digest
pub chains_start : (digests : List AllowedDigest) (last before : List ℕ) (n : ℕ) → n ≡ 16384 → last ≡ replicate n 0 → before ≡ []
    → AreChains digests 0 last before
chains_start digests last before n buckets zeros none = record {
  buckets = ap length zeros ∙ length-replicate n 0 ∙ buckets;
  long = ap length none;
  ends = λ b less.
      let zero : 0 ≡ get_or last b 0 =
      sym (ap (λ (ends : List ℕ). get_or ends b 0) zeros ∙ get_or-replicate n b 0 0 (omega (arith, less, buckets))) in
      subst (λ (place : ℕ). EndsAt digests b 0 place) zero
      (record { within = omega arith; finds = λ bank register digest lies. refl; last = λ k a place one. absurd (omega (arith, place)) });
  each = λ k a less one. absurd (omega (arith, less));
}

-- ---- a digest that is looked for

-- It is on the list where it is among the first digests, so many of them, of which the last is in its bucket.
pub record LeadsOn (digests : List AllowedDigest) (bank : Alg) (register : ℕ) (digest : List ℕ) (end : ℕ) : Type 0 where
  pub within : end ≤ length digests
  pub finds : list_any (is_this bank register digest) digests ≡ list_any (is_this bank register digest) (take end digests)
  pub last : (n : ℕ) (a : AllowedDigest) → end ≡ n + 1 → a ≡ get_or digests n a → bucket_of a ≡ bucket digest

module _ (digests : List AllowedDigest) (bank : Alg) (register : ℕ) (digest : List ℕ) (end : ℕ) where
  abbrev test : AllowedDigest → Bool
  test = is_this bank register digest

  pub leads_on : EndsAt digests (bucket digest) (length digests) end → LeadsOn digests bank register digest end
  leads_on e = record {
    within = e.within;
    finds = ap (list_any test) (sym (take_all (length digests) digests (omega arith))) ∙ e.finds bank register digest refl;
    last = e.last;
  }

  module _ (l : LeadsOn digests bank register digest end) where
    -- none is in an empty chain
    pub none_found : end ≡ 0 → list_any test digests ≡ false
    none_found none = l.finds ∙ ap (λ (i : ℕ). list_any test (take i digests)) none

    module _ (n : ℕ) (a : AllowedDigest) (place : end ≡ n + 1) (is : a ≡ get_or digests n a) where
      inside : n < length digests
      inside = omega (arith, place, l.within)

      so_far : list_any test digests ≡ (test a || list_any test (take n digests))
      so_far = l.finds ∙ ap (λ (i : ℕ). list_any test (take i digests)) place ∙ any_next digests n a is inside test

      -- the last one of the chain is it
      pub last_found : test a ≡ true → list_any test digests ≡ true
      last_found this = so_far ∙ ap (λ (b : Bool). b || list_any test (take n digests)) this

      -- which comes before it
      pub chain_shorter : (before : List ℕ) → AreBefore digests (length digests) before → get_or before n 0 < end
      chain_shorter before each = let next = each n a inside is in omega (arith, next.within, place)

      -- or the chain goes on
      pub chain_on : (before : List ℕ) → test a ≡ false → AreBefore digests (length digests) before
          → LeadsOn digests bank register digest (get_or before n 0)
      chain_on before other each =
          let lies : bucket_of a ≡ bucket digest = l.last n a place is in
          let next = each n a inside is in
          record {
            within = omega (arith, next.within, inside);
            finds = so_far ∙ ap (λ (b : Bool). b || list_any test (take n digests)) other ∙ next.finds bank register digest (sym lies);
            last = λ m x behind one. next.last m x behind one ∙ lies;
          }

-- ---- registers

module _ (before : List AllowedDigest) (a : AllowedDigest) (places : List (Alg × ℕ)) (known : ArePlaces before places) where
  for_more : (bank : Alg) (register : ℕ) → (is_for bank register a || names before bank register) ≡ names (before ++ a ∷ []) bank register
  for_more bank register = sym (any_behind (is_for bank register) before a)

  -- one more digest, for a register that becomes a place
  pub place_new : ArePlaces (before ++ a ∷ []) (places ++ (a.digest.0, a.register) ∷ [])
  place_new = λ bank register.
      any_behind (is_place bank register) places (a.digest.0, a.register)
      ∙ ap (λ (b : Bool). is_for bank register a || b) (known bank register) ∙ for_more bank register

  -- or that is one
  pub place_known : (bank-of : Alg) (register-of : ℕ) (among : List (Alg × ℕ)) → bank-of ≡ a.digest.0 → register-of ≡ a.register → among ≡ places
      → list_any (is_place bank-of register-of) among ≡ true → ArePlaces (before ++ a ∷ []) places
  place_known bank-of register-of among is-bank is-register is-among found = λ bank register. go bank register (is_for bank register a) refl
    where
      has : list_any (is_place a.digest.0 a.register) places ≡ true
      has =
          subst (λ (p : Alg). list_any (is_place p a.register) places ≡ true) is-bank
          (subst (λ (r : ℕ). list_any (is_place bank-of r) places ≡ true) is-register
          (subst (λ (ps : List (Alg × ℕ)). list_any (is_place bank-of register-of) ps ≡ true) is-among found))

      go : (bank : Alg) (register : ℕ) (b : Bool) → is_for bank register a ≡ b
          → list_any (is_place bank register) places ≡ names (before ++ a ∷ []) bank register
      go bank register true is =
          let parts = and_parts (alg_number a.digest.0 == alg_number bank) (a.register == register) is in
          let number : alg_number a.digest.0 ≡ alg_number bank = eqb-true (alg_number a.digest.0) (alg_number bank) parts.0 in
          let same : a.register ≡ register = eqb-true a.register register parts.1 in
          let there : list_any (is_place bank register) places ≡ true =
          subst (λ (n : ℕ). list_any (λ (place : Alg × ℕ). (alg_number place.0 == n) && (place.1 == register)) places ≡ true) number
          (subst (λ (r : ℕ). list_any (is_place a.digest.0 r) places ≡ true) same has) in
          there ∙ sym (ap (λ (b : Bool). b || names before bank register) is) ∙ for_more bank register
      go bank register false is =
          known bank register ∙ sym (ap (λ (b : Bool). b || names before bank register) is) ∙ for_more bank register
