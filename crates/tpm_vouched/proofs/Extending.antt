-- The value that a log leaves in a register is the one that it begins with, extended with the log's digests in turn.
use Rattle.std.proofs.Common.{◌≡◌, ℕ, Bool, true, false, eqb, List, [], ◌∷◌, ◌++◌, length, Option, Some, None, refl, sym, ap, ◌∙◌}
use Rattle.std.proofs.Common.{append_assoc, subst}
use Rattle.std.proofs.lemmas.Bool.{eqb-true}
use Rattle.std.proofs.lemmas.List.{append-nil}
use Rattle.std.specs.Prelude.{◌&&◌, if◌then◌else◌}
use Rattle.tpm_types.specs.declared.alg.Alg.{Alg}
use Rattle.tpm_hmac.specs.Hashes.{digest}
use Rattle.tpm_pcr.specs.Registers.{Change, register_value, start_value, extended, locality_value}
use Rattle.tpm_log.specs.Records.{LogRecord, named_locality, event_locality, locality_of}
use Rattle.tpm_log.specs.Changes.{changes_by, log_changes}
use Rattle.tpm_vouched.specs.Extends.{digests_extended, digests_extending, start_changes, starts, value_before, value_left}
use Rattle.tpm_vouched.proofs.Timely.{AreTimely, ends}

extended_append : (bank : Alg) (old : List ℕ) (xs ys : List (List ℕ)) → extended bank old (xs ++ ys) ≡ extended bank (extended bank old xs) ys
extended_append bank old [] ys = refl
extended_append bank old (x ∷ xs) ys = extended_append bank (digest bank (old ++ x)) xs ys

-- a record that tells a locality is one of EV_NO_ACTION
locality_kind : (register kind : ℕ) (event : List ℕ) (n : ℕ) → event_locality register kind event ≡ Some n → eqb kind 3 ≡ true
locality_kind register kind event n e = by (eqb register 0) (eqb kind 3) (eqb (length event) 17) e
  where
    by : (a b c : Bool) → (if a && b && c then named_locality event else None) ≡ Some n → b ≡ true
    by true true c e = refl
    by true false c e = absurd (let z : ⊥ = cc in z)
    by false b c e = absurd (let z : ⊥ = cc in z)

-- ---- values in place of changes

module _ (bank : Alg) (q : ℕ) where
  -- what a locality that is told makes of a value
  abbrev located : Option ℕ → List ℕ → List ℕ
  located None old = old
  located (Some n) old = if eqb q 0 then locality_value n bank else old

  abbrev begun : List ℕ → List LogRecord → List ℕ
  begun old [] = old
  begun old (e ∷ es) = begun (located (locality_of e) old) es

  abbrev one_more : LogRecord → List ℕ → List ℕ
  one_more e old = extended bank (located (locality_of e) old) (digests_extending bank q e)

  abbrev through : List ℕ → List LogRecord → List ℕ
  through old [] = old
  through old (e ∷ es) = through (one_more e old) es

  step : (e : LogRecord) (cs : List Change) → register_value (changes_by e ++ cs) bank q ≡ one_more e (register_value cs bank q)
  step e cs = go (locality_of e) refl (eqb e.kind 3) refl (eqb e.register q) refl (eqb q 0) refl
    where
      go : (o : Option ℕ) → locality_of e ≡ o → (k : Bool) → eqb e.kind 3 ≡ k → (r : Bool) → eqb e.register q ≡ r → (z : Bool) → eqb q 0 ≡ z
          → register_value (changes_by e ++ cs) bank q ≡ one_more e (register_value cs bank q)
      go (Some n) o true k true r z is = rw (o, k, r, is) refl
      go (Some n) o true k false r z is = rw (o, k, r, is) refl
      go (Some n) o false k r r_is z is = absurd (let z : true ≡ false = sym (locality_kind e.register e.kind e.event n o) ∙ k in cc)
      go None o true k true r z is = rw (o, k, r) refl
      go None o true k false r z is = rw (o, k, r) refl
      go None o false k true r z is = rw (o, k, r) refl
      go None o false k false r z is = rw (o, k, r) refl

  all_steps : (es : List LogRecord) (cs : List Change) → register_value (log_changes es ++ cs) bank q ≡ through (register_value cs bank q) es
  all_steps [] cs = refl
  all_steps (e ∷ es) cs =
      ap (λ (x : List Change). register_value x bank q) (append_assoc (log_changes es) (changes_by e) cs)
      ∙ all_steps es (changes_by e ++ cs)
      ∙ ap (λ (v : List ℕ). through v es) (step e cs)

  start_step : (o : Option ℕ) (cs : List Change) → register_value (start_changes o ++ cs) bank q ≡ located o (register_value cs bank q)
  start_step None cs = refl
  start_step (Some n) cs = refl

  all_starts : (es : List LogRecord) (cs : List Change) → register_value (starts es ++ cs) bank q ≡ begun (register_value cs bank q) es
  all_starts [] cs = refl
  all_starts (e ∷ es) cs =
      ap (λ (x : List Change). register_value x bank q) (append_assoc (starts es) (start_changes (locality_of e)) cs)
      ∙ all_starts es (start_changes (locality_of e) ++ cs)
      ∙ ap (λ (v : List ℕ). begun v es) (start_step (locality_of e) cs)

  -- ---- the starts come first

  joined : (old : List ℕ) (e : LogRecord) (es : List LogRecord) → extended bank (extended bank old (digests_extending bank q e)) (digests_extended bank q es)
      ≡ extended bank old (digests_extended bank q (e ∷ es))
  joined old e es = sym (extended_append bank old (digests_extending bank q e) (digests_extended bank q es))

  -- where no locality may come, none starts the register again
  later : (old : List ℕ) (es : List LogRecord) → AreTimely true es → (begun old es ≡ old) × (through old es ≡ extended bank old (digests_extended bank q es))
  later old [] timely = (refl, refl)
  later old (e ∷ es) timely =
      let none : locality_of e ≡ None = timely.0 refl in
      let next : List ℕ = extended bank old (digests_extending bank q e) in (
        ap (λ (o : Option ℕ). begun (located o old) es) none ∙ (later old es timely.1).0,
        ap (λ (o : Option ℕ). through (extended bank (located o old) (digests_extending bank q e)) es) none
            ∙ (later next es timely.1).1 ∙ joined old e es,
      )

  -- a register other than 0 is started by none
  elsewhere : eqb q 0 ≡ false → (old : List ℕ) (es : List LogRecord)
      → (begun old es ≡ old) × (through old es ≡ extended bank old (digests_extended bank q es))
  elsewhere other old [] = (refl, refl)
  elsewhere other old (e ∷ es) =
      let next : List ℕ = extended bank old (digests_extending bank q e) in (
        ap (λ (v : List ℕ). begun v es) (still (locality_of e)) ∙ (elsewhere other old es).0,
        ap (λ (v : List ℕ). through (extended bank v (digests_extending bank q e)) es) (still (locality_of e))
            ∙ (elsewhere other next es).1 ∙ joined old e es,
      )
    where
      still : (o : Option ℕ) → located o old ≡ old
      still None = refl
      still (Some n) = rw other refl

  extends_none : (e : LogRecord) (n : ℕ) → locality_of e ≡ Some n → digests_extending bank q e ≡ []
  extends_none e n told = go (eqb e.register q) refl
    where
      go : (r : Bool) → eqb e.register q ≡ r → digests_extending bank q e ≡ []
      go true r = rw (r, locality_kind e.register e.kind e.event n told) refl
      go false r = rw r refl

  -- register 0 is started before it is extended
  first : eqb q 0 ≡ true → (zero : q ≡ 0) → (old : List ℕ) (es : List LogRecord) → AreTimely false es
      → through old es ≡ extended bank (begun old es) (digests_extended bank q es)
  first is zero old [] timely = refl
  first is zero old (e ∷ es) timely = go (first is zero old es) (locality_of e) refl (eqb e.register 0) refl (eqb e.kind 3) refl
    where
      behind : ends e ≡ true → through old (e ∷ es) ≡ extended bank (begun old (e ∷ es)) (digests_extended bank q (e ∷ es))
      behind ended =
          let start : List ℕ = located (locality_of e) old in
          let timely_now : AreTimely true es = subst (λ (b : Bool). AreTimely b es) ended timely.1 in
          (later (one_more e old) es timely_now).1 ∙ joined start e es
          ∙ ap (λ (v : List ℕ). extended bank v (digests_extended bank q (e ∷ es))) (sym (later start es timely_now).0)

      before : (AreTimely false es → through old es ≡ extended bank (begun old es) (digests_extended bank q es))
          → ends e ≡ false → locality_of e ≡ None → digests_extending bank q e ≡ []
          → through old (e ∷ es) ≡ extended bank (begun old (e ∷ es)) (digests_extended bank q (e ∷ es))
      before more ended none nothing =
          let timely_now : AreTimely false es = subst (λ (b : Bool). AreTimely b es) ended timely.1 in
          rw (none, nothing) (more timely_now)

      go : (AreTimely false es → through old es ≡ extended bank (begun old es) (digests_extended bank q es))
          → (o : Option ℕ) → locality_of e ≡ o → (r : Bool) → eqb e.register 0 ≡ r → (k : Bool) → eqb e.kind 3 ≡ k
          → through old (e ∷ es) ≡ extended bank (begun old (e ∷ es)) (digests_extended bank q (e ∷ es))
      go more (Some n) o r r_is k k_is = behind (rw o refl)
      go more None o true r false k = behind (rw (o, r, k) refl)
      go more None o true r true k = before more (rw (o, r, k) refl) o (rw (zero, r, k) refl)
      go more None o false r k k_is = before more (rw (o, r) refl) o (rw (zero, r) refl)

pub all_extend : (bank : Alg) (q : ℕ) (es : List LogRecord) → AreTimely false es
    → value_left bank q es ≡ extended bank (value_before bank q es) (digests_extended bank q es)
all_extend bank q es timely =
    ap (λ (x : List Change). register_value x bank q) (sym (append-nil (log_changes es))) ∙ all_steps bank q es []
    ∙ go (eqb q 0) refl
    ∙ ap (λ (v : List ℕ). extended bank v (digests_extended bank q es)) (sym (all_starts bank q es []))
    ∙ ap (λ (x : List Change). extended bank (register_value x bank q) (digests_extended bank q es)) (append-nil (starts es))
  where
    start : List ℕ
    start = start_value bank q

    go : (b : Bool) → eqb q 0 ≡ b → through bank q start es ≡ extended bank (begun bank q start es) (digests_extended bank q es)
    go true is = first bank q is (eqb-true q 0 is) start es timely
    go false is =
        (elsewhere bank q is start es).1 ∙ ap (λ (v : List ℕ). extended bank v (digests_extended bank q es)) (sym (elsewhere bank q is start es).0)

-- a register other than 0 begins with its start value
pub begins_elsewhere : (bank : Alg) (q : ℕ) (es : List LogRecord) → eqb q 0 ≡ false → value_before bank q es ≡ start_value bank q
begins_elsewhere bank q es other =
    ap (λ (x : List Change). register_value x bank q) (sym (append-nil (starts es))) ∙ all_starts bank q es []
    ∙ (elsewhere bank q other (start_value bank q) es).0
