-- In a log that is read no locality event comes behind another, or behind an extend of register 0.
use Rattle.std.proofs.Common.{◌≡◌, ℕ, Bool, true, false, List, [], ◌∷◌, ◌++◌, length, take, Option, Some, None, Result, Ok, Err}
use Rattle.std.proofs.Common.{refl, ap, subst, ◌∙◌}
use Rattle.std.specs.Prelude.{◌||◌}
use Rattle.tpm_wire.specs.Token.{Here, at_start}
use Rattle.tpm_wire.specs.Layout.{to_the_end}
use Rattle.tpm_wire.specs.Reading.{read, finish, ◌>>=◌}
use Rattle.tpm_wire.specs.Path.{Spells}
use Rattle.tpm_wire.proofs.Agreement.{bind_ok}
use Rattle.tpm_wire.proofs.Whole.{spells_read}
use Rattle.tpm_log.specs.declared.fault.LogFaultKind.{LogFaultKind}
use Rattle.tpm_log.specs.declared.algorithm_size.AlgorithmSize.{AlgorithmSize}
use Rattle.tpm_log.specs.Logs.{log_rules}
use Rattle.tpm_log.specs.Numbers.{little_endian}
use Rattle.tpm_log.specs.Headers.{header}
use Rattle.tpm_log.specs.Records.{LogRecord, digests, ends_locality, event, head, is_late, judge_locality, locality_of, log, log_record}
use Rattle.tpm_log.specs.Records.{record_at, record_of, event_locality, unless_refused}
use Rattle.tpm_log.proofs.Rules.{log_sound}
use Rattle.tpm_log.proofs.Sound.{entries_keep, finished}
use Rattle.tpm_log.proofs.Tokens.{okay, okay_is, token_ok}

-- a locality event may come behind none of these
abbrev pub ends : LogRecord → Bool
ends e = ends_locality e.register e.kind (locality_of e)

-- Where it may come no more there is none.
abbrev pub AreTimely : (late : Bool) → List LogRecord → Type 0
AreTimely late [] = Unit {0}
AreTimely late (e ∷ es) = (late ≡ true → locality_of e ≡ None) × AreTimely (late || ends e) es

or_assoc : (a b c : Bool) → (a || (b || c)) ≡ ((a || b) || c)
or_assoc true b c = refl
or_assoc false b c = refl

or_false : (a : Bool) → (a || false) ≡ a
or_false true = refl
or_false false = refl

-- one more behind the others
timely_more : (late : Bool) (es : List LogRecord) (e : LogRecord) → AreTimely late es → ((late || is_late es) ≡ true → locality_of e ≡ None)
    → AreTimely late (es ++ e ∷ [])
timely_more late [] e all one = (λ is. one (or_false late ∙ is), tt)
timely_more late (x ∷ es) e all one =
    (all.0, timely_more (late || ends x) es e all.1 (λ is. one (or_assoc late (ends x) (is_late es) ∙ is)))

-- ---- a record that was read

allowed : (late : Bool) (o : Option ℕ) (bytes : List ℕ) (x : List ℕ) → unless_refused (judge_locality late o) bytes ≡ Ok x → late ≡ true → o ≡ None
allowed late None bytes x e is = refl
allowed true (Some n) bytes x e is = absurd (let z : ⊥ = cc in z)
allowed false (Some n) bytes x e is = absurd (let z : ⊥ = cc in z)

unrefused : (late : Bool) (o : Option ℕ) (bytes : List ℕ) (x : List ℕ) → unless_refused (judge_locality late o) bytes ≡ Ok x → bytes ≡ x
unrefused late o bytes x e = go (judge_locality late o) e
  where
    go : (r : Result (Option ℕ) LogFaultKind) → unless_refused r bytes ≡ Ok x → bytes ≡ x
    go (Ok l) e = cc
    go (Err f) e = absurd (let z : ⊥ = cc in z)

event_timely : (late m : Bool) (register kind : ℕ) (h : Here) (x : List ℕ × Here) → read m (event late register kind) h ≡ Ok x
    → late ≡ true → event_locality register kind x.0 ≡ None
unfolding event
event_timely late m register kind h x e is =
    let judge : List ℕ → Result (List ℕ) LogFaultKind = λ bytes. unless_refused (judge_locality late (event_locality register kind bytes)) bytes in
    let a = bind_ok (read m (little_endian 4) h) _ x e in
    let found = token_ok a.0.0 judge (λ bytes. bytes) m a.0.1 x a.2 in
    let bytes = take a.0.0 a.0.1.rest in
    let same : bytes ≡ x.0 = unrefused late (event_locality register kind bytes) bytes x.0 found.0 in
    subst (λ (z : List ℕ). event_locality register kind z ≡ None) same (allowed late (event_locality register kind bytes) bytes x.0 found.0 is)

record_timely : (hashes : List AlgorithmSize) (late m : Bool) (h : Here) (x : LogRecord × Here) → read m (record_at hashes late) h ≡ Ok x
    → late ≡ true → locality_of x.0 ≡ None
unfolding record_at head
record_timely hashes late m h x e is =
    let a = bind_ok (read m head h) _ x e in
    let b = bind_ok (read m (digests hashes) a.0.1) _ x a.2 in
    let c = bind_ok (read m (event late a.0.0.0 a.0.0.1) b.0.1) _ x b.2 in
    let made = record_of a.0.0 b.0.0 c.0.0 in
    let same : made ≡ x.0 = ap (λ (z : LogRecord × Here). z.0) (okay_is (made, c.0.1) x c.2) in
    subst (λ (z : LogRecord). locality_of z ≡ None) same (event_timely late m a.0.0.0 a.0.0.1 b.0.1 c.0 c.1 is)

-- The records of a log are.
pub log_timely : (hashes : List AlgorithmSize) (records : List LogRecord) (bytes : List ℕ) → Spells log (hashes, records) bytes → AreTimely false records
unfolding log
log_timely hashes records bytes s =
    let all : List AlgorithmSize × List LogRecord = (hashes, records) in
    let a = bind_ok (read false log (at_start bytes) >>= finish log_rules) (λ x. okay x.0) all (spells_read log_rules log_sound log bytes all s) in
    let b = bind_ok (read false log (at_start bytes)) (finish log_rules) a.0 a.1 in
    let c = bind_ok (read false header (at_start bytes)) _ b.0 b.1 in
    let d = bind_ok (read false (to_the_end (log_record c.0.0)) c.0.1) _ b.0 c.2 in
    let timely = entries_keep (λ es k. AreTimely false es) (λ before. read false (log_record c.0.0 before)) true
    (λ front h x before e. timely_more false front x.0 before (record_timely c.0.0 (is_late front) false h x e)) (length c.0.1.rest) [] c.0.1 d.0
    tt d.1 in
    let found : List AlgorithmSize × List LogRecord = (c.0.0, d.0.0) in
    let is : found ≡ all =
    ap (λ (z : (List AlgorithmSize × List LogRecord) × Here). z.0) (okay_is (found, d.0.1) b.0 d.2 ∙ finished b.0 a.0 b.2) ∙ okay_is a.0.0 all a.2 in
    subst (λ (z : List AlgorithmSize × List LogRecord). AreTimely false z.1) is timely
