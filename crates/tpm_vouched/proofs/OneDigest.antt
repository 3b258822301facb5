-- A record of a log extends its register in a bank by the digest of that bank that it shows, and by no other.
use Rattle.std.proofs.Common.{◌≡◌, ℕ, Bool, true, false, eqb, List, [], ◌∷◌, map, Some, None, refl, sym, ap, subst, ◌∙◌}
use Rattle.std.proofs.lemmas.Bool.{eqb-true}
use Rattle.std.proofs.lemmas.Bool.Decides.{nat_tests}
use Rattle.std.proofs.Common.{arith}
use Rattle.std.specs.Prelude.{◌||◌, nat_eq, option_to_list}
use Rattle.std.specs.List.{IsDistinct, AllByRecursion}
use Rattle.std.specs.Cmp.Lexicographic.{pointwise}
use Rattle.tpm_types.specs.declared.alg.Alg.TheVariants.{Sha1, Sha256, Sha384}
use Rattle.tpm_types.specs.declared.alg.Alg.{Alg}
use Rattle.tpm_types.specs.Alg.{alg_number, alg_of}
use Rattle.tpm_pcr.specs.Registers.{digests_for}
use Rattle.tpm_log.specs.declared.algorithm_size.AlgorithmSize.TheVariants.{Bank, Other}
use Rattle.tpm_log.specs.declared.algorithm_size.AlgorithmSize.{AlgorithmSize}
use Rattle.tpm_log.specs.Events.{by_number}
use Rattle.tpm_log.specs.Headers.{id_of}
use Rattle.tpm_log.specs.Records.{bank_digests}
use Rattle.tpm_event_data.specs.EventData.{has_digest}
use Rattle.tpm_event_data.specs.Events.{digest_in}
use Rattle.tpm_log.proofs.Named.{IsNamed, AreNamed}

-- digests with their hashes, as a record has them
abbrev pub Digests : Type 0
Digests = List (AlgorithmSize × List ℕ)

abbrev pub AreDistinct : Digests → Type 0
AreDistinct ds = IsDistinct nat_eq (map (λ d. id_of d.0) ds)

-- None of these is of a hash of this number.
abbrev HaveOthers : (number : ℕ) → Digests → Type 0
HaveOthers number ds = AllByRecursion (λ y. eqb number y ≡ false) (map (λ d. id_of d.0) ds)

flipped : (a b : ℕ) → eqb a b ≡ false → eqb b a ≡ false
flipped a b e = grind (arith, nat_tests)

none_left : (bank : Alg) (ds : Digests) → HaveOthers (alg_number bank) ds → digests_for bank (bank_digests ds) ≡ []
none_left bank [] apart = refl
none_left bank (d ∷ ds) apart = by d.0 d.1 apart.0 (none_left bank ds apart.1)
  where
    by : (h : AlgorithmSize) (bytes : List ℕ) → eqb (alg_number bank) (id_of h) ≡ false → digests_for bank (bank_digests ds) ≡ []
        → digests_for bank (bank_digests ((h, bytes) ∷ ds)) ≡ []
    by (Bank alg) bytes other rest = rw (flipped (alg_number bank) (alg_number alg) other) rest
    by (Other id size) bytes other rest = rest

other_number : (id : ℕ) (bank : Alg) → alg_of id ≡ None → eqb id (alg_number bank) ≡ false
other_number id bank e = go (eqb id (alg_number bank)) refl
  where
    has : (b : Alg) → alg_of (alg_number b) ≡ Some b
    has Sha1 = refl
    has Sha256 = refl
    has Sha384 = refl

    go : (b : Bool) → eqb id (alg_number bank) ≡ b → b ≡ false
    go false is = refl
    go true is = absurd (let z : Some bank ≡ None = sym (has bank) ∙ ap alg_of (sym (eqb-true id (alg_number bank) is)) ∙ e in cc)

-- the digests that extend a bank are the one that is shown for it, if there is one
pub one_digest : (bank : Alg) (ds : Digests) → AreNamed ds → AreDistinct ds
    → digests_for bank (bank_digests ds) ≡ option_to_list (digest_in bank (map by_number ds))
unfolding IsDistinct
one_digest bank [] named distinct = refl
one_digest bank (x ∷ ds) named distinct = by x.0 x.1 named.0 distinct.0 (one_digest bank ds named.1 distinct.1)
  where
    by : (h : AlgorithmSize) (bytes : List ℕ) → IsNamed h → HaveOthers (id_of h) ds
        → digests_for bank (bank_digests ds) ≡ option_to_list (digest_in bank (map by_number ds))
        → digests_for bank (bank_digests ((h, bytes) ∷ ds)) ≡ option_to_list (digest_in bank (map by_number ((h, bytes) ∷ ds)))
    by (Other id size) bytes none apart rest = rw (other_number id bank none) rest
    by (Bank alg) bytes none apart rest = go (eqb (alg_number alg) (alg_number bank)) refl
      where
        go : (b : Bool) → eqb (alg_number alg) (alg_number bank) ≡ b
            → digests_for bank (bank_digests ((Bank alg, bytes) ∷ ds)) ≡ option_to_list (digest_in bank (map by_number ((Bank alg, bytes) ∷ ds)))
        go false is = rw is rest
        go true is =
            let number : alg_number alg ≡ alg_number bank = eqb-true (alg_number alg) (alg_number bank) is in
            rw is (ap (λ (l : List (List ℕ)). bytes ∷ l) (none_left bank ds (subst (λ (n : ℕ). HaveOthers n ds) number apart)))

-- ---- which bytes a digest is

none_is : (bank : Alg) (bytes : List ℕ) (ds : Digests) → HaveOthers (alg_number bank) ds → has_digest bank bytes (map by_number ds) ≡ false
none_is bank bytes [] apart = refl
none_is bank bytes (d ∷ ds) apart = rw (flipped (alg_number bank) (id_of d.0) apart.0) (none_is bank bytes ds apart.1)

pub is_digest_in : (bank : Alg) (bytes d : List ℕ) (ds : Digests) → AreDistinct ds → digest_in bank (map by_number ds) ≡ Some d
    → has_digest bank bytes (map by_number ds) ≡ pointwise nat_eq d bytes
unfolding IsDistinct
is_digest_in bank bytes d [] distinct e = absurd (let z : ⊥ = cc in z)
is_digest_in bank bytes d (x ∷ ds) distinct e = go (eqb (id_of x.0) (alg_number bank)) refl (is_digest_in bank bytes d ds distinct.1) e
  where
    or_false : (b c : Bool) → c ≡ false → (b || c) ≡ b
    or_false true c e = refl
    or_false false c e = e

    go : (b : Bool) → eqb (id_of x.0) (alg_number bank) ≡ b
        → (digest_in bank (map by_number ds) ≡ Some d → has_digest bank bytes (map by_number ds) ≡ pointwise nat_eq d bytes)
        → digest_in bank (map by_number (x ∷ ds)) ≡ Some d → has_digest bank bytes (map by_number (x ∷ ds)) ≡ pointwise nat_eq d bytes
    go false is more e = rw is (more (rw is at e))
    go true is more e =
        let number : id_of x.0 ≡ alg_number bank = eqb-true (id_of x.0) (alg_number bank) is in
        let first : Some x.1 ≡ Some d = rw is at e in
        let same : x.1 ≡ d = cc in
        let others = none_is bank bytes ds (subst (λ (n : ℕ). HaveOthers n ds) number distinct.0) in
        rw is (or_false (pointwise nat_eq x.1 bytes) (has_digest bank bytes (map by_number ds)) others ∙ ap (λ (y : List ℕ). pointwise nat_eq y bytes) same)
