-- What is told of a device that is kept, and whether one is made of bytes.
use Rattle.std.proofs.Common.{◌≡◌, ◌≤◌, ℕ, Bool, true, false, List, [], ◌∷◌, length, Option, Some, None, Result, Ok, Err}
use Rattle.std.proofs.Common.{refl, sym, ap, subst, ◌∙◌, inl, inr, arith}
use Rattle.std.proofs.lemmas.Bool.{le-leb, leb-true, false_from_ne_true}
use Rattle.std.specs.Prelude.{option_map, OnOk, if◌then◌else◌}
use Rattle.tpm_wire.specs.declared.refusal.Refusal.{Refusal}
use Rattle.tpm_wire.specs.Path.{Spells, Fault, Decodes}
use Rattle.tpm_wire.specs.Reading.{read_all}
use Rattle.tpm_types.specs.Limits.{digest_bytes}
use Rattle.tpm_types.specs.Handles.{is_session}
use Rattle.tpm_model.specs.Steps.{History, Origin, PowerCycle, new_origin}
use Rattle.tpm_model.specs.Counters.{nv_memory}
use Rattle.tpm_model.specs.Present.{Present}
use Rattle.tpm_model.specs.Sessions.{loaded}
use Rattle.tpm_device.specs.declared.device.Device.{Device}
use Rattle.tpm_device.specs.Stands.{Stands, holds}
use Rattle.tpm_model.specs.Kept.{kept_memory, restored}
use Rattle.tpm_c.specs.Devices.{fits}
use Rattle.tpm_c.specs.declared.part.TpmRefusal.{TpmRefusal}
use Rattle.tpm_c.specs.Parts.{refusal_of}
use Rattle.tpm_c.specs.KeptDevices.{hash_of, session_hash_of, IsAgain, IsFaulty, is_made}
use Rattle.tpm_c.specs.inner.KeptDevices.{SpellsNvMemory, IsJudged}
use Rattle.tpm_c.proofs.Decoding.{is_read, is_refused}

abbrev hash_in : Present → ℕ → ℕ
hash_in p session = hash_of (option_map (λ s. s.hash) (loaded p.sessions session))

-- the hash of a session that has this handle
pub session_is : (o : Origin) (h : History) (d : Device) (n m : ℕ) (r : Option ℕ) → Stands o h d
    → r ≡ (if is_session n then Some n else None) → r ≡ Some m → hash_in (holds d) m ≡ session_hash_of o h n
session_is o h d n m r stands found is = go (is_session n) refl
  where
    go : (b : Bool) → is_session n ≡ b → hash_in (holds d) m ≡ session_hash_of o h n
    go true e =
        let some : Some m ≡ Some n = sym is ∙ found ∙ rw e refl in
        let same : m ≡ n = ap (λ (x : Option ℕ). number x) some in
        rw e (ap (hash_in (holds d)) same ∙ ap (λ (p : Present). hash_in p n) stands)
      where
        number : Option ℕ → ℕ
        number (Some k) = k
        number None = 0
    go false e = absurd (let none : Some m ≡ None = sym is ∙ found ∙ rw e refl in cc)

-- A device is made of a value that fits, and of bytes that spell an NV memory.
is_made_of : (owner kept : List ℕ) → length owner ≤ digest_bytes → SpellsNvMemory kept → is_made owner kept ≡ true
is_made_of owner kept short (nv, spelled) =
    let fit : fits owner ≡ true = le-leb (length owner) digest_bytes short in
    let read : read_all kept_memory kept ≡ Ok nv = is_read kept_memory kept nv spelled in
    rw (fit, read) refl

-- None is made where there is a fault.
none_made_of : (owner kept : List ℕ) (e : Refusal) → IsFaulty owner kept e → is_made owner kept ≡ false
none_made_of owner kept e (inl (long, is)) =
    let unfit : fits owner ≡ false = false_from_ne_true (fits owner)
    (λ t. let no : ⊥ = omega (arith, long, leb-true (length owner) digest_bytes t) in no) in
    rw unfit refl
none_made_of owner kept e (inr (short, fault)) =
    let fit : fits owner ≡ true = le-leb (length owner) digest_bytes short in
    let read : read_all kept_memory kept ≡ Err e = is_refused kept_memory kept e fault in
    rw (fit, read) refl

-- Where one is made, it was not refused.
pub judged_made : (owner kept : List ℕ) (old new : TpmRefusal) (r : Bool) → is_made owner kept ≡ true
    → IsJudged owner kept (record { is_refused = r; old = old; new = new })
    → (r ≡ false) × (length owner ≤ digest_bytes) × SpellsNvMemory kept × (new ≡ old)
judged_made owner kept old new true makes faulty =
    absurd (let no : true ≡ false = sym makes ∙ none_made_of owner kept (refusal_of new) faulty in cc)
judged_made owner kept old new false makes sound = (refl, sound.0, sound.1, sound.2)

-- Where none is made, it was refused.
pub judged_none : (owner kept : List ℕ) (old new : TpmRefusal) (r : Bool) → is_made owner kept ≡ false
    → IsJudged owner kept (record { is_refused = r; old = old; new = new })
    → (r ≡ true) × IsFaulty owner kept (refusal_of new)
judged_none owner kept old new true none faulty = (refl, faulty)
judged_none owner kept old new false none sound =
    absurd (let no : true ≡ false = sym (is_made_of owner kept sound.0 sound.1) ∙ none in cc)

-- The owner's value fits, where it is no longer than a digest.
pub fits_of : (owner : List ℕ) → length owner ≤ digest_bytes → fits owner ≡ true
fits_of owner short = le-leb (length owner) digest_bytes short

-- ---- what is read

-- Bytes that spell an NV memory have no fault.
pub spelled_faultless : (kept : List ℕ) {e : Refusal} → SpellsNvMemory kept → Fault kept_memory kept e → ⊥
spelled_faultless kept {e} (nv, spelled) fault =
    let read : read_all kept_memory kept ≡ Ok nv = is_read kept_memory kept nv spelled in
    let refused : read_all kept_memory kept ≡ Err e = is_refused kept_memory kept e fault in
    let no : Ok nv ≡ Err e = sym read ∙ refused in
    cc

-- A device that was just made, with the NV memory that was read of them.
pub read_again : (kept : List ℕ) (old d : Device) (r : Result (Unit {0}) Refusal) → SpellsNvMemory kept → Decodes kept_memory (λ _. (holds d).nv) kept r
    → ((owner : List ℕ) (greatest : ℕ) → Stands (new_origin owner greatest) [] old → holds d ≡ restored owner (holds d).nv)
    → OnOk r ((o : Origin) (h : History) (greatest : ℕ) → Stands (new_origin o.owner greatest) [] old
    → Spells kept_memory (nv_memory o h) kept → Stands o (PowerCycle ∷ h) d)
    → (owner : List ℕ) → Stands (new_origin owner 0) [] old → IsAgain owner kept d
read_again kept old d (Ok u) sound read made stands = λ owner new. record {
  spelled = read;
  made = made owner 0 new;
  stands = λ o h same kept_by. stands o h 0 (subst (λ (w : List ℕ). Stands (new_origin w 0) [] old) (sym same) new) kept_by;
}
read_again kept old d (Err e) sound fault made stands = λ owner new. absurd (spelled_faultless kept sound fault)
