-- What is told as vouched of a log's records in a bank is what was measured there.
use Rattle.std.proofs.Common.{◌≡◌, ℕ, Bool, true, false, eqb, List, [], ◌∷◌, ◌++◌, map, filter, Option, Some, None, refl, sym, ap, ◌∙◌, arith}
use Rattle.std.proofs.lemmas.Bool.{eqb-true}
use Rattle.std.proofs.lemmas.Bool.Decides.{nat_tests}
use Rattle.std.proofs.lemmas.List.{map-append}
use Rattle.std.proofs.lemmas.List.Elements.{All-head, All-tail}
use Rattle.std.specs.Prelude.{All, ◌&&◌, ◌||◌, nat_eq, nat_le, option_to_list, if◌then◌else◌}
use Rattle.std.specs.Cmp.Lexicographic.{pointwise}
use Rattle.tpm_types.specs.declared.alg.Alg.TheVariants.{Sha1, Sha256, Sha384}
use Rattle.tpm_types.specs.declared.alg.Alg.{Alg}
use Rattle.tpm_types.specs.declared.tpms.Selection.{Selection}
use Rattle.tpm_types.specs.Alg.{alg_number, all_algs}
use Rattle.tpm_types.specs.Handles.{is_pcr}
use Rattle.tpm_hmac.specs.Hashes.{digest}
use Rattle.tpm_pcr.specs.Registers.{digests_for}
use Rattle.tpm_quote.specs.Attests.{is_among, register_of}
use Rattle.tpm_event_data.specs.declared.measured.MeasuredPart.TheVariants as parts
use Rattle.tpm_event_data.specs.declared.measured.MeasuredPart.{MeasuredPart}
use Rattle.tpm_event_data.specs.EventData.{without_zero}
use Rattle.tpm_event_data.specs.Events.{Shown, digest_in, without_last}
use Rattle.tpm_event_data.specs.Measured.{loader_text, measured_part, measures, value_of}
use Rattle.tpm_log.specs.declared.algorithm_size.AlgorithmSize.{AlgorithmSize}
use Rattle.tpm_log.specs.Events.{by_number, shown}
use Rattle.tpm_log.specs.Records.{LogRecord, bank_digests, is_recorded}
use Rattle.tpm_log.proofs.Named.{AreNamed, log_named}
use Rattle.tpm_log.proofs.Sound.{IsSound, log_ok}
use Rattle.tpm_vouched.specs.Extends.{extends}
use Rattle.tpm_vouched.specs.Record.{is_vouched, vouched, vouched_in}
use Rattle.tpm_vouched.specs.Vouched.{Measured, ReadLog, TextOfPart, measured, measured_by, vouched_part, parts_in, vouched_parts, with_part}
use Rattle.tpm_vouched.proofs.Parts.{or_false}
use Rattle.tpm_vouched.proofs.OneDigest.{is_digest_in, one_digest}

-- ---- the part

abbrev with : MeasuredPart → List ℕ → TextOfPart
with part text = record { part = part; text = text }

-- The first part that a test takes is that of the first text that it takes.
first_taken : (d event value text whole cut : List ℕ) (a b c w z : Bool)
    → (if a then parts.Data else if b then parts.Variable else if c || w then parts.Text else if z then parts.Cut else parts.Other)
    ≡ vouched_part (
      d,
      if a then Some (with parts.Data event)
          else if b then Some (with parts.Variable value)
          else if c then Some (with parts.Text text)
          else if w then Some (with parts.Text whole)
          else if z then Some (with parts.Cut cut) else None,
    )
first_taken d event value text whole cut true b c w z = refl
first_taken d event value text whole cut false true c w z = refl
first_taken d event value text whole cut false false true w z = refl
first_taken d event value text whole cut false false false true z = refl
first_taken d event value text whole cut false false false false true = refl
first_taken d event value text whole cut false false false false false = refl

-- where a test of the record's digests is one of this digest
part_is : (bank : Alg) (d : List ℕ) (e : Shown) → ((text : List ℕ) → measures (bank ∷ []) e.digests text ≡ pointwise nat_eq d (digest bank text))
    → measured_part (bank ∷ []) e ≡ vouched_part (with_part bank e d)
part_is bank d e same = go (value_of e.kind e.event) refl (loader_text e.kind e.event) refl
  where
    is : List ℕ → Bool
    is text = pointwise nat_eq d (digest bank text)

    cut : List ℕ
    cut = without_last e.event

    go : (v : Option (List ℕ)) → value_of e.kind e.event ≡ v → (t : Option (List ℕ)) → loader_text e.kind e.event ≡ t
        → measured_part (bank ∷ []) e ≡ vouched_part (with_part bank e d)
    go None v None t = rw (v, t, same e.event, same cut) (first_taken d e.event [] [] [] cut (is e.event) false false false (is cut))
    go (Some value) v None t =
        rw (v, t, same e.event, same value, same cut) (first_taken d e.event value [] [] cut (is e.event) (is value) false false (is cut))
    go None v (Some text) t =
        let whole : List ℕ = without_zero text in
        rw (v, t, same e.event, same text, same whole, same cut)
        (first_taken d e.event [] text whole cut (is e.event) false (is text) (is whole) (is cut))
    go (Some value) v (Some text) t =
        let whole : List ℕ = without_zero text in
        rw (v, t, same e.event, same value, same text, same whole, same cut)
        (first_taken d e.event value text whole cut (is e.event) (is value) (is text) (is whole) (is cut))

-- ---- a record

abbrev part_in : Shown → Alg → MeasuredPart
part_in e bank = measured_part (bank ∷ []) e

kept : (e : Shown) (p : Alg → Bool) (bank : Alg) (algs : List Alg) → parts_in bank (map (vouched_in e) (filter p algs))
    ≡ map (part_in e) (filter (λ b. eqb (alg_number b) (alg_number bank) && p b) algs)
kept e p bank [] = refl
kept e p bank (x ∷ algs) = go (p x) refl (eqb (alg_number x) (alg_number bank)) refl (kept e p bank algs)
  where
    go : (a : Bool) → p x ≡ a → (b : Bool) → eqb (alg_number x) (alg_number bank) ≡ b
        → parts_in bank (map (vouched_in e) (filter p algs)) ≡ map (part_in e) (filter (λ b. eqb (alg_number b) (alg_number bank) && p b) algs)
        → parts_in bank (map (vouched_in e) (filter p (x ∷ algs)))
        ≡ map (part_in e) (filter (λ b. eqb (alg_number b) (alg_number bank) && p b) (x ∷ algs))
    go true a true b more = rw (a, b) (ap (λ (l : List MeasuredPart). part_in e x ∷ l) more)
    go true a false b more = rw (a, b) more
    go false a true b more = rw (a, b) more
    go false a false b more = rw (a, b) more

-- what is told of one bank
of_bank : (sels : List Selection) (bank : Alg) (e : Shown)
    → parts_in bank (vouched sels e) ≡ (if is_vouched sels e bank then part_in e bank ∷ [] else [])
of_bank sels bank e = kept e p bank all_algs ∙ by bank
  where
    p : Alg → Bool
    p = is_vouched sels e

    one : (b : Alg) (is : Bool) → map (part_in e) (if is then b ∷ [] else []) ≡ (if is then part_in e b ∷ [] else [])
    one b true = refl
    one b false = refl

    by : (b : Alg) → map (part_in e) (filter (λ x. eqb (alg_number x) (alg_number b) && p x) all_algs) ≡ (if p b then part_in e b ∷ [] else [])
    by Sha1 = one Sha1 (p Sha1)
    by Sha256 = one Sha256 (p Sha256)
    by Sha384 = one Sha384 (p Sha384)

pub there_is : (register kind : ℕ) → is_recorded register kind ≡ true → eqb kind 3 ≡ false → is_pcr register ≡ true
there_is register kind recorded other = go (nat_le register 16) refl (eqb register 23) refl (rw other at recorded)
  where
    go : (a : Bool) → nat_le register 16 ≡ a → (b : Bool) → eqb register 23 ≡ b → (a || b) ≡ true → is_pcr register ≡ true
    go true a b is e = grind (arith, nat_tests)
    go false a true is e = grind (arith, nat_tests)
    go false a false is e = absurd (let z : ⊥ = cc in z)

-- the record's own digest in the bank
record_told : (sels : List Selection) (bank : Alg) (hashes : List AlgorithmSize) (e : LogRecord) → IsSound hashes e → AreNamed e.digests
    → is_among sels (register_of bank e.register) ≡ true → eqb e.kind 3 ≡ false
    → parts_in bank (vouched sels (shown e)) ≡ map vouched_part (map (with_part bank (shown e)) (digests_for bank (bank_digests e.digests)))
record_told sels bank hashes e sound named selected other =
    of_bank sels bank (shown e) ∙ go (digest_in bank (map by_number e.digests)) refl
    ∙ ap (λ (ds : List (List ℕ)). map vouched_part (map (with_part bank (shown e)) ds)) (sym (one_digest bank e.digests named sound.digests.distinct))
  where
    there : is_pcr e.register ≡ true
    there = there_is e.register e.kind sound.recorded other

    go : (o : Option (List ℕ)) → digest_in bank (map by_number e.digests) ≡ o
        → (if is_vouched sels (shown e) bank then part_in (shown e) bank ∷ [] else [])
        ≡ map vouched_part (map (with_part bank (shown e)) (option_to_list (digest_in bank (map by_number e.digests))))
    go None o = rw (other, there, o) refl
    go (Some d) o =
        rw (other, there, o, selected)
        (ap (λ (p : MeasuredPart). p ∷ [])
        (part_is bank d (shown e) (λ text. or_false _ ∙ is_digest_in bank (digest bank text) d e.digests sound.digests.distinct o)))

-- ---- all records of a register

one_told : (sels : List Selection) (bank : Alg) (register : ℕ) (hashes : List AlgorithmSize) (e : LogRecord) → IsSound hashes e → AreNamed e.digests
    → is_among sels (register_of bank register) ≡ true
    → (if eqb e.register register then parts_in bank (vouched sels (shown e)) else []) ≡ map vouched_part (measured_by bank register e)
one_told sels bank register hashes e sound named selected = go (eqb e.register register) refl (eqb e.kind 3) refl
  where
    go : (r : Bool) → eqb e.register register ≡ r → (k : Bool) → eqb e.kind 3 ≡ k
        → (if eqb e.register register then parts_in bank (vouched sels (shown e)) else []) ≡ map vouched_part (measured_by bank register e)
    go false r k is = rw r refl
    go true r true is = rw (r, is) refl
    go true r false is =
        let same : e.register ≡ register = eqb-true e.register register r in
        let on : extends register e ≡ true = rw (r, is) refl in
        let ms : List Measured = map (with_part bank (shown e)) (digests_for bank (bank_digests e.digests)) in
        ap (λ (b : Bool). if b then parts_in bank (vouched sels (shown e)) else []) r
        ∙ record_told sels bank hashes e sound named (ap (λ (q : ℕ). is_among sels (register_of bank q)) same ∙ selected) is
        ∙ ap (λ (b : Bool). map vouched_part (if b then ms else [])) (sym on)

all_told : (sels : List Selection) (bank : Alg) (register : ℕ) (hashes : List AlgorithmSize) (es : List LogRecord) → All (IsSound hashes) es
    → All (λ e. AreNamed e.digests) es → is_among sels (register_of bank register) ≡ true
    → vouched_parts sels bank register es ≡ map vouched_part (measured bank register es)
all_told sels bank register hashes [] sound named selected = refl
all_told sels bank register hashes (e ∷ es) sound named selected =
    let first = one_told sels bank register hashes e (All-head (IsSound hashes) e es sound) (All-head (λ e. AreNamed e.digests) e es named) selected in
    let others = all_told sels bank register hashes es (All-tail (IsSound hashes) e es sound) (All-tail (λ e. AreNamed e.digests) e es named) selected in
    ap (λ (l : List MeasuredPart). l ++ vouched_parts sels bank register es) first
    ∙ ap (λ (l : List MeasuredPart). map vouched_part (measured_by bank register e) ++ l) others
    ∙ sym (map-append vouched_part (measured_by bank register e) (measured bank register es))

pub told : (sels : List Selection) (bank : Alg) (register : ℕ) (l : ReadLog) → is_among sels (register_of bank register) ≡ true
    → vouched_parts sels bank register l.records ≡ map vouched_part (measured bank register l.records)
told sels bank register l selected =
    all_told sels bank register l.hashes l.records (log_ok l.hashes l.records l.bytes l.spelled)
    (log_named l.hashes l.records l.bytes l.spelled) selected
