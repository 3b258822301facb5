-- A log of which no record is unknown to a list of allowed digests has digests of the list alone.
use Rattle.std.proofs.Common.{◌≡◌, ℕ, Bool, true, false, eqb, List, [], ◌∷◌, map, Option, Some, None, refl, sym, ap, subst, ◌∙◌}
use Rattle.std.proofs.Common.{inl, inr}
use Rattle.std.proofs.lemmas.Bool.{eqb-true}
use Rattle.std.proofs.lemmas.List.Elements.{All-append, All-cons, All-head, All-nil, All-tail}
use Rattle.std.specs.Prelude.{All, ◌&&◌, ◌<◌, not, option_to_list}
use Rattle.tpm_types.specs.declared.alg.Alg.{Alg}
use Rattle.tpm_types.specs.declared.attest.Attest.{Attest}
use Rattle.tpm_types.specs.Handles.{is_pcr}
use Rattle.tpm_quote.specs.Attests.{is_among, register_of}
use Rattle.tpm_event_data.specs.Events.{digest_in}
use Rattle.tpm_log.specs.declared.algorithm_size.AlgorithmSize.{AlgorithmSize}
use Rattle.tpm_log.specs.Events.{by_number, shown}
use Rattle.tpm_log.specs.Records.{LogRecord}
use Rattle.tpm_log.proofs.Named.{AreNamed, log_named}
use Rattle.tpm_log.proofs.Sound.{IsSound, log_ok}
use Rattle.tpm_vouched.specs.declared.allowed.AllowedDigest.{AllowedDigest}
use Rattle.tpm_vouched.specs.Allowed.{AreAllowed, NoneIsUnknown, allows, is_missed, is_unknown, names}
use Rattle.tpm_vouched.specs.Extends.{digests_extended, digests_extending}
use Rattle.tpm_vouched.specs.Record.{extending}
use Rattle.tpm_vouched.specs.Vouched.{AreApart, QuoteApart, QuotedLog, ReadLog}
use Rattle.tpm_vouched.proofs.OneDigest.{one_digest}
use Rattle.tpm_vouched.proofs.Quoted.{same_quoted}
use Rattle.tpm_vouched.proofs.Told.{there_is}

module _ (list : List AllowedDigest) (bank : Alg) (register : ℕ) (named : names list bank register ≡ true) where
  abbrev IsOn : List ℕ → Type 0
  IsOn d = allows list bank register d ≡ true

  known : (a b : Bool) → a ≡ true → (not b && a) ≡ false → b ≡ true
  known a true is e = refl
  known true false is e = absurd (let z : ⊥ = cc in z)
  known false false is e = absurd (let z : ⊥ = cc in z)

  one : (hashes : List AlgorithmSize) (e : LogRecord) → IsSound hashes e → AreNamed e.digests
      → (e.register ≡ register → is_unknown list (shown e) bank ≡ false) → All IsOn (digests_extending bank register e)
  one hashes e sound of_hash none = go (eqb e.register register) refl (eqb e.kind 3) refl
    where
      go : (r : Bool) → eqb e.register register ≡ r → (k : Bool) → eqb e.kind 3 ≡ k → All IsOn (digests_extending bank register e)
      go false r k is = rw r (All-nil IsOn)
      go true r true is = rw (r, is) (All-nil IsOn)
      go true r false is =
          rw (r, is, one_digest bank e.digests of_hash sound.digests.distinct)
          (by (digest_in bank (map by_number e.digests)) refl)
        where
          there : is_pcr e.register ≡ true
          there = there_is e.register e.kind sound.recorded is

          by : (o : Option (List ℕ)) → digest_in bank (map by_number e.digests) ≡ o → All IsOn (option_to_list (digest_in bank (map by_number e.digests)))
          by None o = rw o (All-nil IsOn)
          by (Some d) o =
              let same : e.register ≡ register = eqb-true e.register register r in
              let extends : extending bank (shown e) ≡ Some d = rw (is, there) o in
              let missed : is_missed list bank register (Some d) ≡ false =
              subst (λ (q : ℕ). is_missed list bank q (Some d) ≡ false) same (ap (is_missed list bank e.register) (sym extends) ∙ none same) in
              rw o (All-cons IsOn d [] (known (names list bank register) (allows list bank register d) named missed) (All-nil IsOn))

  each : (hashes : List AlgorithmSize) (es : List LogRecord) → All (IsSound hashes) es → All (λ e. AreNamed e.digests) es
      → NoneIsUnknown list bank register es → All IsOn (digests_extended bank register es)
  each hashes [] sound of_hash none = All-nil IsOn
  each hashes (e ∷ es) sound of_hash none =
      All-append IsOn (digests_extending bank register e) (digests_extended bank register es)
      (one hashes e (All-head (IsSound hashes) e es sound) (All-head (λ e. AreNamed e.digests) e es of_hash) (none e (inl refl)))
      (each hashes es (All-tail (IsSound hashes) e es sound) (All-tail (λ e. AreNamed e.digests) e es of_hash) (λ x among. none x (inr among)))

pub all_allowed : (list : List AllowedDigest) (bank : Alg) (register : ℕ) (l : ReadLog) → names list bank register ≡ true
    → NoneIsUnknown list bank register l.records → AreAllowed list bank register l.records
all_allowed list bank register l named none =
    each list bank register named l.hashes l.records (log_ok l.hashes l.records l.bytes l.spelled)
    (log_named l.hashes l.records l.bytes l.spelled) none

pub allowed_quoted : (list : List AllowedDigest) (bank hash : Alg) (a : Attest) (q : ℕ) (one other : QuotedLog hash a) → q < 24
    → is_among a.quote.selections (register_of bank q) ≡ true → QuoteApart hash a.quote.selections one.registers other.registers
    → AreApart bank q one.read.records other.read.records → AreAllowed list bank q one.read.records → AreAllowed list bank q other.read.records
allowed_quoted list bank hash a q one other less selected apart free allowed =
    subst (λ (ds : List (List ℕ)). All (λ d. allows list bank q d ≡ true) ds)
    (same_quoted bank hash a q one other less selected apart free).digests allowed
