-- After an accepted step of a session that is kept, its caller is in step with the new nonce.
use Rattle.std.proofs.Common.{◌≡◌, ℕ, ◌≤◌, List, [], ◌∷◌, length, take, Some, None, Bool, true, false, not, ◌&&◌, refl}
use Rattle.std.proofs.Common.{sym, ap, ◌∙◌, subst, arith, length-take}
use Rattle.std.specs.Prelude.{if◌then◌else◌}
use Rattle.tpm_types.specs.declared.tpms.Auth.{Auth}
use Rattle.tpm_types.specs.Handles.{is_session}
use Rattle.tpm_types.specs.Tpma.{continues}
use Rattle.tpm_commands.specs.declared.command.Command.{Command}
use Rattle.tpm_commands.specs.declared.command.CommandBody.{CommandBody}
use Rattle.tpm_commands.specs.declared.command.ReplyBody.{ReplyBody}
use Rattle.tpm_commands.specs.Handles.{needs_authorization}
use Rattle.tpm_commands.specs.declared.command.CommandBody.TheVariants as bodies
use Rattle.tpm_buffer.specs.Commands.{code_for}
use Rattle.tpm_buffer.specs.Responses.{Reply}
use Rattle.tpm_model.specs.Steps.{History, Accepted, Origin}
use Rattle.tpm_model.specs.Sessions.{Session, slot_of, lives, begins, begun, clears, closes, is_of_slot, authorizes}
use Rattle.tpm_model.specs.Sessions.{start_of, last_nonce, assertions_of, as_session, session_at, sessions_at, loaded}
use Rattle.tpm_model.specs.Sessions.{if_of_kind, is_handle_of}
use Rattle.tpm_model.specs.InStep.{CallerSession, Agrees, InStep}
use Rattle.tpm_model.specs.Callers.{attrs_for}
use Rattle.tpm_model.specs.Premises.{nonce_bytes, most_nonce, rolled}
use Rattle.tpm_model.proofs.Accepted.{some}
use Rattle.tpm_model.proofs.Slots.{in_slot, held}
use Rattle.tpm_model.proofs.Replay.{its_slot, chosen}

-- ---- the step

no_begin : (k : ℕ) (body : CommandBody) (r : ReplyBody) → needs_authorization (code_for body) ≡ true → begun k body r ≡ None
no_begin k (bodies.StartAuthSession start) r e = absurd (let z : ⊥ = cc in z)
no_begin k _ r e = refl

no_clear : (k : ℕ) (body : CommandBody) → needs_authorization (code_for body) ≡ true → clears k body ≡ false
no_clear k (bodies.Startup kind) e = absurd (let z : ⊥ = cc in z)
no_clear k (bodies.FlushContext handle) e = absurd (let z : ⊥ = cc in z)
no_clear k _ e = refl

no_close : (b : Bool) → (b && not (continues (attrs_for true))) ≡ false
no_close true = refl
no_close false = refl

-- what a step of a session leaves of its slot
lives_on : (k : ℕ) (c : Command) (r : Reply) (n : List ℕ) (h : History) (a : Auth) → needs_authorization (code_for c.body) ≡ true → c.auths.items ≡ a ∷ []
    → a.attrs ≡ attrs_for true
    → lives k h ≡ true → lives k (Accepted c r n ∷ h) ≡ true
lives_on k c r n h a needs one keep l =
    let close : closes k c.auths.items ≡ false = ap (closes k) one ∙ ap (λ (f : ℕ). is_of_slot k a && not (continues f)) keep ∙ no_close (is_of_slot k a) in
    rw (no_begin k c.body r.body needs, no_clear k c.body needs, close) l

start_on : (k : ℕ) (c : Command) (r : Reply) (n : List ℕ) (h : History) → needs_authorization (code_for c.body) ≡ true
    → start_of k (Accepted c r n ∷ h) ≡ start_of k h
start_on k c r n h needs = rw (no_begin k c.body r.body needs) refl

-- A caller that keeps its session is in step after the step.
pub still : (o : Origin) (h : History) (c : CallerSession) (y : Session) (d : Command) (r : Reply) (n : List ℕ) (a : Auth)
    → loaded (sessions_at o h) c.handle ≡ Some y → Agrees c y → is_session c.handle ≡ true → length n ≡ nonce_bytes → length c.nonce ≤ most_nonce
    → needs_authorization (code_for d.body) ≡ true → d.auths.items ≡ a ∷ [] → a.session ≡ c.handle → a.attrs ≡ attrs_for true
    → InStep o (Accepted d r n ∷ h) (rolled c n)
still o h c y d r n a is agrees session whole short needs one handle keep =
    let k = slot_of c.handle in
    let g : History = Accepted d r n ∷ h in
    let x = held o h c.handle y is in
    let by : authorizes k d.auths.items ≡ true =
    ap (authorizes k) one
    ∙ subst (λ (i : ℕ). authorizes (slot_of i) (a ∷ []) ≡ true) handle (its_slot a (subst (λ (i : ℕ). is_session i ≡ true) (sym handle) session)) in
    let live = lives_on k d r n h a needs one keep x.live in
    let start : start_of k g ≡ Some x.start = start_on k d r n h needs ∙ x.there in
    let nonce : last_nonce k g ≡ n = chosen (begins k d.body r.body) (authorizes k d.auths.items) n (last_nonce k h) by in
    let z = as_session o n (assertions_of k g) x.start in
    let there : session_at o g k ≡ Some z = rw (live, start, nonce) refl in
    let kind : is_handle_of c.handle z ≡ true = subst (λ s. is_handle_of c.handle s ≡ true) x.is x.kind in
    let load : loaded (sessions_at o g) c.handle ≡ Some z =
    ap (if_of_kind c.handle) (in_slot o g k x.slot ∙ there) ∙ ap (λ b. if b then some z else None) kind in
    let long : length x.start.request.params.nonce_caller ≡ length c.nonce = sym (ap (λ (s : Session). s.nonce_length) x.is) ∙ agrees.length in (
      z,
      load,
      record {
        hash = sym (ap (λ (s : Session). s.hash) x.is) ∙ agrees.hash;
        key = sym (ap (λ (s : Session). s.key) x.is) ∙ agrees.key;
        nonce = ap (λ (m : ℕ). take m n) long;
        length = omega (arith, long, length-take (length c.nonce) n);
      },
    )
