-- Sessions are in slots.
use Rattle.std.proofs.Common.{◌≡◌, ℕ, zero, suc, List, Some, None, Option, Bool, true, false, refl, sym, subst, inl}
use Rattle.std.proofs.Common.{inr}
use Rattle.std.specs.Prelude.{◌⊎◌, if◌then◌else◌, option_map}
use Rattle.tpm_model.specs.Steps.{History, Origin}
use Rattle.tpm_model.specs.Policies.{Assertion}
use Rattle.tpm_model.specs.Sessions.{Session, slot_of, lives, Start, start_of, last_nonce, assertions_of, as_session}
use Rattle.tpm_model.specs.Sessions.{session_at, session_in, sessions_at, loaded, if_of_kind, is_handle_of}
use Rattle.tpm_model.proofs.Accepted.{some, some_is}

abbrev pub IsSlot : ℕ → Type 0
IsSlot k = (0 ≡ k) ⊎ ((1 ≡ k) ⊎ (2 ≡ k))

-- what holds of each slot
pub each_slot : (P : ℕ → Type 0) → P 0 → P 1 → P 2 → (k : ℕ) → IsSlot k → P k
each_slot P first second third k (inl e) = subst P e first
each_slot P first second third k (inr (inl e)) = subst P e second
each_slot P first second third k (inr (inr e)) = subst P e third

-- what is in a slot
pub in_slot : (o : Origin) (h : History) (k : ℕ) → IsSlot k → session_in (sessions_at o h) k ≡ session_at o h k
in_slot o h = each_slot (λ i. session_in (sessions_at o h) i ≡ session_at o h i) refl refl refl

-- A session is in a slot.
pub slot_of_session : (o : Origin) (h : History) (k : ℕ) (s : Session) → session_in (sessions_at o h) k ≡ Some s → (session_at o h k ≡ Some s) × IsSlot k
slot_of_session o h zero s e = (e, inl refl)
slot_of_session o h (suc zero) s e = (e, inr (inl refl))
slot_of_session o h (suc (suc zero)) s e = (e, inr (inr refl))
slot_of_session o h (suc (suc (suc k))) s e = absurd (let z : ⊥ = cc in z)

-- ---- a session that is loaded, by its start

pub record Held (o : Origin) (h : History) (handle : ℕ) (y : Session) : Type 0 where
  pub live : lives (slot_of handle) h ≡ true
  pub start : Start
  pub there : start_of (slot_of handle) h ≡ Some start
  pub is : y ≡ as_session o (last_nonce (slot_of handle) h) (assertions_of (slot_of handle) h) start
  pub kind : is_handle_of handle y ≡ true
  pub slot : IsSlot (slot_of handle)

pub of_kind : (handle : ℕ) (x : Option Session) (y : Session) → if_of_kind handle x ≡ Some y → (x ≡ Some y) × (is_handle_of handle y ≡ true)
of_kind handle None y e = absurd (let z : ⊥ = cc in z)
of_kind handle (Some x) y e = go (is_handle_of handle x) refl e
  where
    go : (b : Bool) → is_handle_of handle x ≡ b → (if b then Some x else None) ≡ Some y → (some x ≡ Some y) × (is_handle_of handle y ≡ true)
    go true t e = (e, subst (λ z. is_handle_of handle z ≡ true) (some_is x y e) t)
    go false t e = absurd (let z : ⊥ = cc in z)

pub by_start : (o : Origin) (live : Bool) (start : Option Start) (n : List ℕ) (made : List Assertion) (y : Session)
    → (if live then option_map (as_session o n made) start else None) ≡ Some y
    → (live ≡ true) × (x : Start) × (start ≡ Some x) × (y ≡ as_session o n made x)
by_start o true None n made y e = absurd (let z : ⊥ = cc in z)
by_start o true (Some x) n made y e = (refl, x, refl, sym (some_is (as_session o n made x) y e))
by_start o false start n made y e = absurd (let z : ⊥ = cc in z)

pub held : (o : Origin) (h : History) (handle : ℕ) (y : Session) → loaded (sessions_at o h) handle ≡ Some y → Held o h handle y
held o h handle y e =
    let k = slot_of handle in
    let a = of_kind handle (session_in (sessions_at o h) k) y e in
    let at = slot_of_session o h k y a.0 in
    let b = by_start o (lives k h) (start_of k h) (last_nonce k h) (assertions_of k h) y at.0 in
    record { live = b.0; start = b.1; there = b.2; is = b.3; kind = a.1; slot = at.1 }
