-- The sessions after one more step.
use Rattle.std.proofs.Common.{get_or, ◌≡◌, ◌≤◌, ℕ, zero, suc, Bool, true, false, List, [], ◌∷◌, ◌||◌, None, Some, Option}
use Rattle.std.proofs.Common.{option_map, IsSome, refl, sym, ap, ◌∙◌, arith}
use Rattle.std.proofs.lemmas.Bool.Decides.{nat_tests}
use Rattle.std.proofs.lemmas.Bool.{both_ways}
use Rattle.std.specs.Prelude.{◌==◌, Option, Some, slice_set, if◌then◌else◌}
use Rattle.tpm_commands.specs.declared.command.Command.{Command}
use Rattle.tpm_commands.specs.declared.command.StartAuth.{StartAuth}
use Rattle.tpm_commands.specs.declared.command.CommandBody.{CommandBody}
use Rattle.tpm_commands.specs.declared.response.StartReply.{StartReply}
use Rattle.tpm_commands.specs.declared.command.ReplyBody.{ReplyBody}
use Rattle.tpm_commands.specs.Handles.{needs_authorization}
use Rattle.tpm_commands.specs.declared.command.CommandBody.TheVariants as bodies
use Rattle.tpm_commands.specs.declared.command.ReplyBody.TheVariants as replies
use Rattle.tpm_buffer.specs.Responses.{Reply}
use Rattle.tpm_buffer.specs.Commands.{code_for}
use Rattle.tpm_model.specs.Steps.{Origin, History, Accepted}
use Rattle.tpm_pcr.specs.Registers.{Registers, registers_after}
use Rattle.tpm_model.specs.Changes.{changes}
use Rattle.tpm_model.specs.Policies.{Assertion}
use Rattle.tpm_model.specs.Sessions.{Session, Start, slot_of, begun, clears, asserted_by, is_hmac, if_of_kind, loaded, session_in}
use Rattle.tpm_model.specs.Sessions.{session_at, sessions_at, as_session, last_nonce, assertions_of, lives, start_of}
use Rattle.tpm_types.specs.declared.tpms.Auth.{Auth}
use Rattle.tpm_types.specs.Handles.{is_session, is_hmac_session, is_policy, rs_pw}
use Rattle.tpm_model.proofs.Replay.{no_password}
use Rattle.tpm_types.specs.Tpma.{continues}
use Rattle.tpm_session.specs.inner.Asserting.{rolled, after_command}

-- ---- slots

abbrev pub put_at : ℕ → Option Session → ℕ → Option Session → Option Session
put_at s x k old = if s == k then x else old

pub three : {A : Type 0} {a b d x y z : A} → a ≡ x → b ≡ y → d ≡ z → ◌≡◌ {A = List A} (a ∷ b ∷ d ∷ []) (x ∷ y ∷ z ∷ [])
three e f g = rw (e, f, g) refl

pub same_test : (m n : ℕ) (b : Bool) → (m == n) ≡ b → (x y : Option Session) → put_at m x n y ≡ (if b then x else y)
same_test m n b e x y = rw e refl

pub set_three : (a b d x : Option Session) (s : ℕ) → slice_set (a ∷ b ∷ d ∷ []) s x ≡ put_at s x 0 a ∷ put_at s x 1 b ∷ put_at s x 2 d ∷ []
set_three a b d x zero = refl
set_three a b d x (suc zero) = refl
set_three a b d x (suc (suc zero)) = refl
set_three a b d x (suc (suc (suc n))) =
    sym (three
    (same_test (suc (suc (suc n))) 0 false (grind (arith, nat_tests)) x a)
    (same_test (suc (suc (suc n))) 1 false (grind (arith, nat_tests)) x b)
    (same_test (suc (suc (suc n))) 2 false (grind (arith, nat_tests)) x d))

-- ---- a session that is started

started_at : (o : Origin) (h : History) (c : Command) (r : Reply) (nonce : List ℕ) (start : StartAuth) (reply : StartReply) (k : ℕ) →
    c.body ≡ bodies.StartAuthSession start → c.auths.items ≡ [] → r.body ≡ replies.StartAuthSession reply →
    session_at o (Accepted c r nonce ∷ h) k ≡ put_at (slot_of reply.session)
    (Some (as_session o nonce [] (record { request = start; nonce = nonce }))) k (session_at o h k)
started_at o h c r nonce start reply k body auths answer =
    elim (slot_of reply.session == k) as (λ t. (slot_of reply.session == k) ≡ t →
    session_at o (Accepted c r nonce ∷ h) k ≡
    put_at (slot_of reply.session) (Some (as_session o nonce [] (record { request = start; nonce = nonce }))) k (session_at o h k)) [
      | true ↦ λ t. rw (body, auths, answer, t) refl
      | false ↦ λ t. rw (body, auths, answer, t) refl
    ] refl

pub started : (o : Origin) (h : History) (c : Command) (r : Reply) (nonce : List ℕ) (start : StartAuth) (reply : StartReply) (slot : ℕ) (made : Session)
    (old new : List (Option Session)) →
    new ≡ slice_set old slot (Some made) → slot_of reply.session ≡ slot → made ≡ as_session o nonce [] (record { request = start; nonce = nonce }) →
    c.body ≡ bodies.StartAuthSession start → c.auths.items ≡ [] → r.body ≡ replies.StartAuthSession reply → old ≡ sessions_at o h →
    new ≡ sessions_at o (Accepted c r nonce ∷ h)
started o h c r nonce start reply slot made old new is in_slot made_is body auths answer at =
    let x = Some (as_session o nonce [] (record { request = start; nonce = nonce })) in
    is ∙ ap (λ (l : List (Option Session)). slice_set l slot (Some made)) at
    ∙ rw (made_is, ← in_slot)
    (set_three (session_at o h 0) (session_at o h 1) (session_at o h 2) x (slot_of reply.session)
    ∙ sym (three (started_at o h c r nonce start reply 0 body auths answer) (started_at o h c r nonce start reply 1 body auths answer)
    (started_at o h c r nonce start reply 2 body auths answer)))

-- ---- a session that authorized

-- A command that needs authorization starts, flushes and asserts nothing.
record StaysOut (k : ℕ) (body : CommandBody) (reply : ReplyBody) : Type 0 where
  no_start : begun k body reply ≡ None
  no_flush : clears k body ≡ false
  no_assertion : (now : Registers) (start : Option Start) (old : List Assertion) → asserted_by k body now start old ≡ old

stays_out : (k : ℕ) (body : CommandBody) (reply : ReplyBody) → needs_authorization (code_for body) ≡ true → StaysOut k body reply
stays_out k (bodies.Startup kind) reply e = absurd (both_ways false refl e)
stays_out k (bodies.StartAuthSession start) reply e = absurd (both_ways false refl e)
stays_out k (bodies.FlushContext handle) reply e = absurd (both_ways false refl e)
stays_out k (bodies.PolicyPcr handle asked) reply e = absurd (both_ways false refl e)
stays_out k (bodies.PolicyOr handle ds) reply e = absurd (both_ways false refl e)
stays_out k (bodies.PolicyCommandCode handle code) reply e = absurd (both_ways false refl e)
stays_out k (bodies.PolicyAuthValue handle) reply e = absurd (both_ways false refl e)
stays_out k (bodies.PolicyRestart handle) reply e = absurd (both_ways false refl e)
stays_out k _ reply e = record { no_start = refl; no_flush = refl; no_assertion = λ now start old. refl }

as_rolled : (o : Origin) (nonce last : List ℕ) (made : List Assertion) (lives : Bool) (start : Option Start) →
    (if lives then option_map (as_session o nonce []) start else None) ≡ option_map (rolled nonce)
    (if lives then option_map (as_session o last made) start else None)
as_rolled o nonce last made false start = refl
as_rolled o nonce last made true None = refl
as_rolled o nonce last made true (Some s) = refl

rolled_at : (o : Origin) (h : History) (c : Command) (r : Reply) (nonce : List ℕ) (a : Auth) (others : List Auth) (keep : Bool) (k : ℕ) →
    c.auths.items ≡ a ∷ others → is_session a.session ≡ true →
    continues a.attrs ≡ keep → needs_authorization (code_for c.body) ≡ true →
    session_at o (Accepted c r nonce ∷ h) k ≡ (if slot_of a.session == k then after_command nonce keep (session_at o h k) else session_at o h k)
rolled_at o h c r nonce a others keep k auths of_session kept needs =
    let out = stays_out k c.body r.body needs in
    elim (slot_of a.session == k) as (λ t. (slot_of a.session == k) ≡ t →
    session_at o (Accepted c r nonce ∷ h) k ≡ (if slot_of a.session == k then after_command nonce keep (session_at o h k) else session_at o h k)) [
      | true ↦ λ t. elim keep
          as (λ b. continues a.attrs ≡ b →
          session_at o (Accepted c r nonce ∷ h) k ≡ (if slot_of a.session == k then after_command nonce b (session_at o h k) else session_at o h k)) [
            | true ↦ λ b. rw (out.no_start, out.no_flush, auths, of_session, t, b)
                (as_rolled o nonce (last_nonce k h) (assertions_of k h) (lives k h) (start_of k h))
            | false ↦ λ b. rw (out.no_start, out.no_flush, auths, of_session, t, b) refl
          ] kept
      | false ↦ λ t. rw (
        out.no_start,
        out.no_flush,
        auths,
        of_session,
        t,
        out.no_assertion (registers_after (changes h)) (start_of k h) (assertions_of k h),
      ) refl
    ] refl

-- ---- a password that authorized

no_session : (handle : ℕ) → (handle == rs_pw) ≡ true → is_session handle ≡ false
no_session handle is = elim (is_session handle) as (λ b. is_session handle ≡ b → is_session handle ≡ false) [
  | true ↦ λ e. let other : (handle == rs_pw) ≡ false = no_password handle e in cc
  | false ↦ λ e. e
] refl

stayed_at : (o : Origin) (h : History) (c : Command) (r : Reply) (nonce : List ℕ) (a : Auth) (others : List Auth) (k : ℕ) →
    c.auths.items ≡ a ∷ others → is_session a.session ≡ false → needs_authorization (code_for c.body) ≡ true →
    session_at o h k ≡ session_at o (Accepted c r nonce ∷ h) k
stayed_at o h c r nonce a others k auths none needs =
    let out = stays_out k c.body r.body needs in
    rw (out.no_start, out.no_flush, auths, none, out.no_assertion (registers_after (changes h)) (start_of k h) (assertions_of k h)) refl

-- A password leaves the sessions.
pub stayed : (o : Origin) (h : History) (c : Command) (r : Reply) (nonce : List ℕ) (a : Auth) (others : List Auth) (old : List (Option Session)) →
    c.auths.items ≡ a ∷ others → (a.session == rs_pw) ≡ true → needs_authorization (code_for c.body) ≡ true → old ≡ sessions_at o h →
    old ≡ sessions_at o (Accepted c r nonce ∷ h)
stayed o h c r nonce a others old auths is needs at =
    let none = no_session a.session is in
    at ∙ three (stayed_at o h c r nonce a others 0 auths none needs) (stayed_at o h c r nonce a others 1 auths none needs)
    (stayed_at o h c r nonce a others 2 auths none needs)

-- ---- a session that authorized

past_the_last : (a b d : Option Session) (slot : ℕ) → 3 ≤ slot → session_in (a ∷ b ∷ d ∷ []) slot ≡ None
past_the_last a b d zero past = absurd (omega arith)
past_the_last a b d (suc zero) past = absurd (omega arith)
past_the_last a b d (suc (suc zero)) past = absurd (omega arith)
past_the_last a b d (suc (suc (suc n))) past = refl

-- No session is loaded past the last slot.
pub none_past : (o : Origin) (h : History) (handle : ℕ) (old : List (Option Session)) → 3 ≤ slot_of handle → old ≡ sessions_at o h →
    IsSome (loaded old handle) → ⊥
none_past o h handle old past at some =
    both_ways false refl (rw (at, past_the_last (session_at o h 0) (session_at o h 1) (session_at o h 2) (slot_of handle) past) at some)

set_after : (a b d x : Option Session) (f : Option Session → Option Session) (s : ℕ) → get_or (a ∷ b ∷ d ∷ []) s x ≡ x →
    slice_set (a ∷ b ∷ d ∷ []) s (f x) ≡ put_at s (f a) 0 a ∷ put_at s (f b) 1 b ∷ put_at s (f d) 2 d ∷ []
set_after a b d x f zero e = rw e refl
set_after a b d x f (suc zero) e = rw e refl
set_after a b d x f (suc (suc zero)) e = rw e refl
set_after a b d x f (suc (suc (suc n))) e = set_three a b d (f x) (suc (suc (suc n))) ∙ three
    (same_test (suc (suc (suc n))) 0 false (grind (arith, nat_tests)) (f x) a ∙ sym (same_test (suc (suc (suc n))) 0 false (grind (arith, nat_tests)) (f a) a))
    (same_test (suc (suc (suc n))) 1 false (grind (arith, nat_tests)) (f x) b ∙ sym (same_test (suc (suc (suc n))) 1 false (grind (arith, nat_tests)) (f b) b))
    (same_test (suc (suc (suc n))) 2 false (grind (arith, nat_tests)) (f x) d ∙ sym (same_test (suc (suc (suc n))) 2 false (grind (arith, nat_tests)) (f d) d))

of_a_kind : (by_hmac by_policy kind : Bool) (s : Session) → IsSome (if (if kind then by_hmac else by_policy) then Some s else None) →
    (by_hmac || by_policy) ≡ true
of_a_kind true by_policy kind s h = refl
of_a_kind false true kind s h = refl
of_a_kind false false true s h = absurd (both_ways false refl h)
of_a_kind false false false s h = absurd (both_ways false refl h)

of_session : (handle : ℕ) (s : Option Session) → IsSome (if_of_kind handle s) → is_session handle ≡ true
of_session handle None h = absurd (both_ways false refl h)
of_session handle (Some s) h = of_a_kind (is_hmac_session handle) (is_policy handle) (is_hmac s.session_type) s h

pub went_on : (o : Origin) (h : History) (c : Command) (r : Reply) (nonce : List ℕ) (a : Auth) (others : List Auth) (keep : Bool) (x y : Option Session)
    (slot : ℕ) (old new : List (Option Session)) →
    new ≡ slice_set old slot y → y ≡ after_command nonce keep x → x ≡ get_or old slot x → slot ≡ slot_of a.session → IsSome (loaded old a.session) →
    c.auths.items ≡ a ∷ others → continues a.attrs ≡ keep → needs_authorization (code_for c.body) ≡ true → old ≡ sessions_at o h →
    new ≡ sessions_at o (Accepted c r nonce ∷ h)
went_on o h c r nonce a others keep x y slot old new is becomes found in_slot is_loaded auths kept needs at =
    let handle = of_session a.session (get_or old (slot_of a.session) None) is_loaded in
    let here : get_or (sessions_at o h) (slot_of a.session) x ≡ x =
    sym (found ∙ ap (λ (l : List (Option Session)). get_or l slot x) at ∙ ap (λ (k : ℕ). get_or (sessions_at o h) k x) in_slot) in
    is ∙ ap (λ (l : List (Option Session)). slice_set l slot y) at ∙ rw (becomes, in_slot)
    (set_after (session_at o h 0) (session_at o h 1) (session_at o h 2) x (after_command nonce keep) (slot_of a.session) here
    ∙ sym (three (rolled_at o h c r nonce a others keep 0 auths handle kept needs) (rolled_at o h c r nonce a others keep 1 auths handle kept needs)
    (rolled_at o h c r nonce a others keep 2 auths handle kept needs)))
