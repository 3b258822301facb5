-- Two logs that leave one value in a register measured the same there.
use Rattle.std.proofs.Common.{◌≡◌, ℕ, Bool, true, false, eqb, List, [], ◌∷◌, ◌++◌, map, Option, Some, None, refl, sym, ap, ◌∙◌}
use Rattle.std.proofs.Common.{inl, inr}
use Rattle.std.proofs.lemmas.List.{map-append}
use Rattle.std.proofs.lemmas.List.Elements.{All-head, All-tail}
use Rattle.std.specs.Prelude.{◌≢◌, All, filter_map, nat_eq, option_map, if◌then◌else◌}
use Rattle.std.specs.Cmp.Lexicographic.{pointwise, same_text}
use Rattle.std.specs.List.{cons_option}
use Rattle.tpm_types.specs.declared.alg.Alg.TheVariants.{Sha1, Sha256, Sha384}
use Rattle.tpm_types.specs.declared.alg.Alg.{Alg}
use Rattle.tpm_types.specs.Alg.{alg_number, digest_len}
use Rattle.tpm_hmac.specs.Hashes.{digest}
use Rattle.tpm_hmac.specs.Among.{IsAmong}
use Rattle.tpm_hmac.proofs.Among.{among_front, among_later}
use Rattle.tpm_pcr.specs.Registers.{digests_for, extended}
use Rattle.tpm_log.specs.declared.algorithm_size.AlgorithmSize.TheVariants.{Bank, Other}
use Rattle.tpm_log.specs.declared.algorithm_size.AlgorithmSize.{AlgorithmSize}
use Rattle.tpm_event_data.specs.Events.{Shown}
use Rattle.tpm_log.specs.Events.{shown}
use Rattle.tpm_log.specs.Records.{LogRecord, bank_digests}
use Rattle.tpm_log.specs.inner.Measurements.{HasLength, IsDigestOf}
use Rattle.tpm_log.proofs.Sound.{IsSound, log_ok}
use Rattle.tpm_vouched.specs.Extends.{digests_extended, digests_extending, extends, value_before, value_left, values_hashed}
use Rattle.tpm_vouched.specs.Vouched.{AreApart, AreSame, Measured, ReadLog, SameMeasured, SameText, TextOfPart, measured, measured_by}
use Rattle.tpm_vouched.specs.Vouched.{part_of, parts_of, texts_hashed, with_part}
use Rattle.tpm_vouched.proofs.Extending.{all_extend}
use Rattle.tpm_vouched.proofs.Peeling.{AreLong, same_chain}
use Rattle.tpm_vouched.proofs.Timely.{log_timely}

-- ---- each digest is as long as those of its bank

pub same_alg : (a b : Alg) → eqb (alg_number a) (alg_number b) ≡ true → a ≡ b
same_alg Sha1 Sha1 e = refl
same_alg Sha1 Sha256 e = absurd (let z : ⊥ = cc in z)
same_alg Sha1 Sha384 e = absurd (let z : ⊥ = cc in z)
same_alg Sha256 Sha1 e = absurd (let z : ⊥ = cc in z)
same_alg Sha256 Sha256 e = refl
same_alg Sha256 Sha384 e = absurd (let z : ⊥ = cc in z)
same_alg Sha384 Sha1 e = absurd (let z : ⊥ = cc in z)
same_alg Sha384 Sha256 e = absurd (let z : ⊥ = cc in z)
same_alg Sha384 Sha384 e = refl

long_append : (bank : Alg) (xs ys : List (List ℕ)) → AreLong bank xs → AreLong bank ys → AreLong bank (xs ++ ys)
long_append bank [] ys long others = others
long_append bank (x ∷ xs) ys long others = (long.0, long_append bank xs ys long.1 others)

record_long : (bank : Alg) (hashes : List AlgorithmSize) (ds : List (AlgorithmSize × List ℕ)) → All (IsDigestOf hashes) ds
    → AreLong bank (digests_for bank (bank_digests ds))
record_long bank hashes [] each = tt
record_long bank hashes (d ∷ ds) each =
    by d.0 d.1 (All-head (IsDigestOf hashes) d ds each).1 (record_long bank hashes ds (All-tail (IsDigestOf hashes) d ds each))
  where
    by : (h : AlgorithmSize) (bytes : List ℕ) → HasLength h bytes → AreLong bank (digests_for bank (bank_digests ds))
        → AreLong bank (digests_for bank (bank_digests ((h, bytes) ∷ ds)))
    by (Other id size) bytes long rest = rest
    by (Bank alg) bytes long rest = go (eqb (alg_number alg) (alg_number bank)) refl
      where
        go : (b : Bool) → eqb (alg_number alg) (alg_number bank) ≡ b → AreLong bank (digests_for bank (bank_digests ((Bank alg, bytes) ∷ ds)))
        go true is = rw is (long ∙ ap digest_len (same_alg alg bank is), rest)
        go false is = rw is rest

all_long : (bank : Alg) (q : ℕ) (hashes : List AlgorithmSize) (es : List LogRecord) → All (IsSound hashes) es → AreLong bank (digests_extended bank q es)
all_long bank q hashes [] sound = tt
all_long bank q hashes (e ∷ es) sound =
    long_append bank (digests_extending bank q e) (digests_extended bank q es) (one (extends q e))
    (all_long bank q hashes es (All-tail (IsSound hashes) e es sound))
  where
    one : (b : Bool) → AreLong bank (if b then digests_for bank (bank_digests e.digests) else [])
    one true = record_long bank hashes e.digests (All-head (IsSound hashes) e es sound).digests.each
    one false = tt

-- ---- a digest is the hash of its text

abbrev HasHash : Alg → Measured → Type 0
HasHash bank m = (p : TextOfPart) → m.1 ≡ Some p → m.0 ≡ digest bank p.text

abbrev AreHashed : Alg → List Measured → Type 0
AreHashed bank [] = Unit {0}
AreHashed bank (m ∷ ms) = HasHash bank m × AreHashed bank ms

found_part : (bank : Alg) (d : List ℕ) (those : List TextOfPart) (p : TextOfPart) → part_of bank d those ≡ Some p → d ≡ digest bank p.text
found_part bank d [] p e = absurd (let z : ⊥ = cc in z)
found_part bank d (x ∷ those) p e = go (found_part bank d those p) (pointwise nat_eq d (digest bank x.text)) refl e
  where
    go : (part_of bank d those ≡ Some p → d ≡ digest bank p.text) → (b : Bool) → pointwise nat_eq d (digest bank x.text) ≡ b
        → (if b then Some x else part_of bank d those) ≡ Some p → d ≡ digest bank p.text
    go more true is e =
        same_text d (digest bank x.text) (sym is) ∙ ap (λ (q : TextOfPart). digest bank q.text) (let s : x ≡ p = cc in s)
    go more false is e = more e

all_hashed : (bank : Alg) (e : Shown) (ds : List (List ℕ)) → AreHashed bank (map (with_part bank e) ds)
all_hashed bank e [] = tt
all_hashed bank e (d ∷ ds) = (found_part bank d (parts_of e), all_hashed bank e ds)

hashed_append : (bank : Alg) (ms ns : List Measured) → AreHashed bank ms → AreHashed bank ns → AreHashed bank (ms ++ ns)
hashed_append bank [] ns hashed others = others
hashed_append bank (m ∷ ms) ns hashed others = (hashed.0, hashed_append bank ms ns hashed.1 others)

measured_hashed : (bank : Alg) (q : ℕ) (es : List LogRecord) → AreHashed bank (measured bank q es)
measured_hashed bank q [] = tt
measured_hashed bank q (e ∷ es) =
    hashed_append bank (measured_by bank q e) (measured bank q es) (one (extends q e)) (measured_hashed bank q es)
  where
    one : (b : Bool) → AreHashed bank (if b then map (with_part bank (shown e)) (digests_for bank (bank_digests e.digests)) else [])
    one true = all_hashed bank (shown e) (digests_for bank (bank_digests e.digests))
    one false = tt

-- ---- the digests of what was measured are those that were extended

abbrev digest_of : Measured → List ℕ
digest_of m = m.0

digests_alone : (bank : Alg) (e : Shown) (ds : List (List ℕ)) → map digest_of (map (with_part bank e) ds) ≡ ds
digests_alone bank e [] = refl
digests_alone bank e (d ∷ ds) = ap (λ (l : List (List ℕ)). d ∷ l) (digests_alone bank e ds)

measured_digests : (bank : Alg) (q : ℕ) (es : List LogRecord) → map digest_of (measured bank q es) ≡ digests_extended bank q es
measured_digests bank q [] = refl
measured_digests bank q (e ∷ es) =
    map-append digest_of (measured_by bank q e) (measured bank q es)
    ∙ ap (λ (l : List (List ℕ)). l ++ map digest_of (measured bank q es)) (one (extends q e))
    ∙ ap (λ (l : List (List ℕ)). digests_extending bank q e ++ l) (measured_digests bank q es)
  where
    ds : List (List ℕ)
    ds = digests_for bank (bank_digests e.digests)

    one : (b : Bool) → map digest_of (if b then map (with_part bank (shown e)) ds else []) ≡ (if b then ds else [])
    one true = digests_alone bank (shown e) ds
    one false = refl

-- ---- the same digests, and the same texts

abbrev text_in : Measured → Option (List ℕ)
text_in m = option_map (λ p. p.text) m.1

module _ (bank : Alg) (P : List ℕ → Type 0) (apart : (x y : List ℕ) → P x → P y → digest bank x ≡ digest bank y → x ≡ y) where
  same_each : (ms ns : List Measured) → AreHashed bank ms → AreHashed bank ns → ((x : List ℕ) → IsAmong x (filter_map text_in ms) → P x)
      → ((x : List ℕ) → IsAmong x (filter_map text_in ns) → P x) → map digest_of ms ≡ map digest_of ns → AreSame ms ns
  same_each [] [] hm hn in_m in_n e = tt
  same_each [] (n ∷ ns) hm hn in_m in_n e = absurd (let z : ⊥ = cc in z)
  same_each (m ∷ ms) [] hm hn in_m in_n e = absurd (let z : ⊥ = cc in z)
  same_each (m ∷ ms) (n ∷ ns) hm hn in_m in_n e =
      let one = heads m.0 n.0 (map digest_of ms) (map digest_of ns) e in (
        one.0,
        by m.1 n.1 hm.0 hn.0 in_m in_n one.0,
        same_each ms ns hm.1 hn.1 (λ x among. in_m x (rest m.1 (filter_map text_in ms) x among))
            (λ x among. in_n x (rest n.1 (filter_map text_in ns) x among)) one.1,
      )
    where
      heads : (x y : List ℕ) (xs ys : List (List ℕ)) → x ∷ xs ≡ y ∷ ys → (x ≡ y) × (xs ≡ ys)
      heads x y xs ys e = (cc, cc)

      those : Option TextOfPart → List (List ℕ) → List (List ℕ)
      those o xs = cons_option (option_map (λ p. p.text) o) xs

      rest : (o : Option TextOfPart) (xs : List (List ℕ)) (x : List ℕ) → IsAmong x xs → IsAmong x (those o xs)
      rest None xs x among = among
      rest (Some p) xs x among = inr among

      by : (o p : Option TextOfPart) → HasHash bank (m.0, o) → HasHash bank (n.0, p)
          → ((x : List ℕ) → IsAmong x (those o (filter_map text_in ms)) → P x)
          → ((x : List ℕ) → IsAmong x (those p (filter_map text_in ns)) → P x) → m.0 ≡ n.0 → SameText o p
      by None q hm hn in_m in_n e = tt
      by (Some p) None hm hn in_m in_n e = tt
      by (Some p) (Some q) hm hn in_m in_n e =
          apart p.text q.text (in_m p.text (inl refl)) (in_n q.text (inl refl)) (sym (hm p refl) ∙ e ∙ hn q refl)

-- ---- the law of a register: its value shows by which digests it was extended, and from which value

-- Texts with P have hashes of their own, and none has a value as its hash with which the register begins.
module _ (bank : Alg) (q : ℕ) (one other : ReadLog) (P : List ℕ → Type 0)
    (apart : (x y : List ℕ) → P x → P y → digest bank x ≡ digest bank y → x ≡ y)
    (behind : (x : List ℕ) → P x → digest bank x ≢ value_before bank q one.records)
    (other_behind : (x : List ℕ) → P x → digest bank x ≢ value_before bank q other.records)
  where
    abbrev values : ReadLog → List (List ℕ)
    values l = values_hashed bank (value_before bank q l.records) (digests_extended bank q l.records)

    long : (l : ReadLog) → AreLong bank (digests_extended bank q l.records)
    long l = all_long bank q l.hashes l.records (log_ok l.hashes l.records l.bytes l.spelled)

    extends_to : (l : ReadLog) → value_left bank q l.records ≡ extended bank (value_before bank q l.records) (digests_extended bank q l.records)
    extends_to l = all_extend bank q l.records (log_timely l.hashes l.records l.bytes l.spelled)

    pub same_digests : ((x : List ℕ) → IsAmong x (values one) → P x) → ((x : List ℕ) → IsAmong x (values other) → P x)
        → value_left bank q one.records ≡ value_left bank q other.records
        → (value_before bank q one.records ≡ value_before bank q other.records)
        × (digests_extended bank q one.records ≡ digests_extended bank q other.records)
    same_digests in_one in_other left =
        same_chain bank (value_before bank q one.records) (value_before bank q other.records) P apart behind other_behind
        (digests_extended bank q one.records) (digests_extended bank q other.records) (long one) (long other) in_one in_other
        (sym (extends_to one) ∙ left ∙ extends_to other)

pub same_measured : (bank : Alg) (q : ℕ) (one other : ReadLog) → value_left bank q one.records ≡ value_left bank q other.records
    → AreApart bank q one.records other.records → SameMeasured bank q one.records other.records
same_measured bank q one other left free =
    let a = one.records in
    let b = other.records in
    let ds = digests_extended bank q a in
    let es = digests_extended bank q b in
    let begins = value_before bank q a in
    let other_begins = value_before bank q b in
    let hashed = texts_hashed bank q a in
    let other_hashed = texts_hashed bank q b in
    let ts = filter_map text_in (measured bank q a) in
    let us = filter_map text_in (measured bank q b) in
    let P : List ℕ → Type 0 = λ x. IsAmong x (hashed ++ other_hashed) in
    let both =
    same_digests bank q one other P free.apart free.behind free.other_behind
    (λ x m. among_front x hashed other_hashed (among_later x ts (values_hashed bank begins ds) m))
    (λ x m. among_later x hashed other_hashed (among_later x us (values_hashed bank other_begins es) m)) left in
    record {
      before = both.0;
      digests = both.1;
      each = same_each bank P free.apart (measured bank q a) (measured bank q b) (measured_hashed bank q a) (measured_hashed bank q b)
          (λ x m. among_front x hashed other_hashed (among_front x ts (values_hashed bank begins ds) m))
          (λ x m. among_later x hashed other_hashed (among_front x us (values_hashed bank other_begins es) m))
          (measured_digests bank q a ∙ both.1 ∙ sym (measured_digests bank q b));
    }
