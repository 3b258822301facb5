-- The sessions after a policy command.
use Rattle.std.proofs.Common.{get_or, ◌≡◌, ℕ, zero, suc, Bool, true, false, List, [], ◌∷◌, None, Some, Option}
use Rattle.std.proofs.Common.{option_map, IsSome, refl, sym, ap, ◌∙◌, arith}
use Rattle.std.proofs.lemmas.Bool.Decides.{nat_tests}
use Rattle.std.proofs.lemmas.Bool.{both_ways}
use Rattle.std.proofs.lemmas.Option.{none-some, same_Some}
use Rattle.std.specs.Prelude.{◌==◌, slice_set, if◌then◌else◌}
use Rattle.tpm_commands.specs.declared.command.Command.{Command}
use Rattle.tpm_commands.specs.declared.command.CommandBody.{CommandBody}
use Rattle.tpm_commands.specs.declared.command.CommandBody.TheVariants as bodies
use Rattle.tpm_buffer.specs.Responses.{Reply}
use Rattle.tpm_types.specs.declared.tpms.Selection.{Selection}
use Rattle.tpm_model.specs.Steps.{Origin, History, Accepted}
use Rattle.tpm_pcr.specs.Registers.{Registers, registers_after}
use Rattle.tpm_model.specs.Changes.{changes}
use Rattle.tpm_model.specs.Policies.Assertion.{PcrAsserted, OrAsserted, CodeAsserted, AuthValueAsserted}
use Rattle.tpm_model.specs.Policies.{Assertion, policy_digest}
use Rattle.tpm_model.specs.Sessions.{Session, Start, slot_of, begun, clears, asserted_by, pcr_assertion, pcr_asserted}
use Rattle.tpm_model.specs.Sessions.{is_handle_of, if_of_kind, session_in, loaded, session_at, sessions_at, as_session}
use Rattle.tpm_model.specs.Sessions.{last_nonce, assertions_of, lives, start_of}
use Rattle.tpm_session.specs.inner.Asserting.{asserting, restarted, with_slot}
use Rattle.tpm_session.proofs.Slots.{put_at, three, same_test, set_three}

-- ---- a slot that changes

of_some : (handle : ℕ) (s : Option Session) → IsSome (if_of_kind handle s) → IsSome s
of_some handle None h = h
of_some handle (Some s) h = refl

found_here : (l : List (Option Session)) (slot : ℕ) (x : Option Session) → x ≡ get_or l slot x → IsSome (get_or l slot None) → get_or l slot None ≡ x
found_here [] slot x found some = absurd (both_ways false refl some)
found_here (y ∷ l) zero x found some = sym found
found_here (y ∷ l) (suc slot) x found some = found_here l slot x found some

pub slot_changed : (change : Option Session → Option Session) (x y : Option Session) (slot handle : ℕ) (old new : List (Option Session)) →
    new ≡ slice_set old slot y → y ≡ change x → x ≡ get_or old slot x → slot ≡ slot_of handle → IsSome (loaded old handle) →
    new ≡ with_slot (slot_of handle) change old
slot_changed change x y slot handle old new is becomes found same some =
    let here : get_or old slot None ≡ x = found_here old slot x found (rw same (of_some handle (get_or old (slot_of handle) None) some)) in
    is ∙ rw (becomes, ← same, ← here) refl

with_three : (a b d : Option Session) (change : Option Session → Option Session) (slot : ℕ) →
    with_slot slot change (a ∷ b ∷ d ∷ []) ≡ put_at slot (change a) 0 a ∷ put_at slot (change b) 1 b ∷ put_at slot (change d) 2 d ∷ []
with_three a b d change zero = refl
with_three a b d change (suc zero) = refl
with_three a b d change (suc (suc zero)) = refl
with_three a b d change (suc (suc (suc n))) = set_three a b d (change None) (suc (suc (suc n))) ∙ three
    (same_test (suc (suc (suc n))) 0 false (grind (arith, nat_tests)) (change None) a
    ∙ sym (same_test (suc (suc (suc n))) 0 false (grind (arith, nat_tests)) (change a) a))
    (same_test (suc (suc (suc n))) 1 false (grind (arith, nat_tests)) (change None) b
    ∙ sym (same_test (suc (suc (suc n))) 1 false (grind (arith, nat_tests)) (change b) b))
    (same_test (suc (suc (suc n))) 2 false (grind (arith, nat_tests)) (change None) d
    ∙ sym (same_test (suc (suc (suc n))) 2 false (grind (arith, nat_tests)) (change d) d))

-- the sessions after a step that changes one slot
step_changed : (o : Origin) (h : History) (c : Command) (r : Reply) (nonce : List ℕ) (slot : ℕ) (change : Option Session → Option Session)
    (old new : List (Option Session)) →
    new ≡ with_slot slot change old →
    ((k : ℕ) → session_at o (Accepted c r nonce ∷ h) k ≡ (if slot == k then change (session_at o h k) else session_at o h k)) →
    old ≡ sessions_at o h → new ≡ sessions_at o (Accepted c r nonce ∷ h)
step_changed o h c r nonce slot change old new is each at =
    is ∙ ap (with_slot slot change) at ∙ with_three (session_at o h 0) (session_at o h 1) (session_at o h 2) change slot
    ∙ sym (three (each 0) (each 1) (each 2))

-- ---- one assertion more

as_asserting : (o : Origin) (last : List ℕ) (made : List Assertion) (a : Assertion) (s : Start) →
    as_session o last (a ∷ made) s ≡ asserting a (as_session o last made s)
as_asserting o last made (PcrAsserted selections pcr_digest None) s = refl
as_asserting o last made (PcrAsserted selections pcr_digest (Some n)) s = refl
as_asserting o last made (OrAsserted digests) s = refl
as_asserting o last made (CodeAsserted code) s = refl
as_asserting o last made AuthValueAsserted s = refl

-- where a session lives that asserts this
abbrev living : Origin → List ℕ → Bool → Option Start → List Assertion → Option Session
living o last lives start made = if lives then option_map (as_session o last made) start else None

asserted_more : (o : Origin) (last : List ℕ) (lives : Bool) (start : Option Start) (made : List Assertion) (a : Assertion) →
    living o last lives start (a ∷ made) ≡ option_map (asserting a) (living o last lives start made)
asserted_more o last false start made a = refl
asserted_more o last true None made a = refl
asserted_more o last true (Some s) made a = ap Some (as_asserting o last made a s)

asserted_no_more : (o : Origin) (last : List ℕ) (lives : Bool) (start : Option Start) (made : List Assertion) →
    living o last lives start [] ≡ option_map restarted (living o last lives start made)
asserted_no_more o last false start made = refl
asserted_no_more o last true None made = refl
asserted_no_more o last true (Some s) made = refl

pcr_asserted_more : (o : Origin) (last : List ℕ) (lives : Bool) (start : Option Start) (made : List Assertion) (now : Registers) (pcr_digest : List ℕ)
    (selections : List Selection) (held : Session) →
    living o last lives start made ≡ Some held →
    living o last lives start (pcr_asserted now start pcr_digest selections made) ≡ option_map
    (asserting (pcr_assertion now held.session_type held.hash pcr_digest selections)) (living o last lives start made)
pcr_asserted_more o last false start made now pcr_digest selections held e = absurd (none-some held e)
pcr_asserted_more o last true None made now pcr_digest selections held e = absurd (none-some held e)
pcr_asserted_more o last true (Some s) made now pcr_digest selections held e =
    asserted_more o last true (Some s) made (pcr_assertion now s.request.params.session_type s.request.params.auth_hash pcr_digest selections)
    ∙ ap (λ (x : Session). option_map (asserting (pcr_assertion now x.session_type x.hash pcr_digest selections)) (Some (as_session o last made s)))
    (same_Some (as_session o last made s) held e)

-- ---- the sessions after a policy command

-- what a slot holds after a command that neither starts nor flushes a session, and is authorized by none
after_policy : (o : Origin) (h : History) (c : Command) (r : Reply) (nonce : List ℕ) (k : ℕ) (body : CommandBody) (made : List Assertion) →
    c.body ≡ body → c.auths.items ≡ [] → begun k body r.body ≡ None → clears k body ≡ false →
    asserted_by k body (registers_after (changes h)) (start_of k h) (assertions_of k h) ≡ made →
    session_at o (Accepted c r nonce ∷ h) k ≡ living o (last_nonce k h) (lives k h) (start_of k h) made
after_policy o h c r nonce k body made same auths no_start no_flush asserts = rw (same, auths, no_start, no_flush, asserts) refl

-- after a command that asserts the same in any session
asserted_at : (o : Origin) (h : History) (c : Command) (r : Reply) (nonce : List ℕ) (k handle : ℕ) (body : CommandBody) (a : Assertion) →
    c.body ≡ body → c.auths.items ≡ [] → begun k body r.body ≡ None → clears k body ≡ false →
    asserted_by k body (registers_after (changes h)) (start_of k h) (assertions_of k h) ≡
    (if slot_of handle == k then a ∷ assertions_of k h else assertions_of k h) →
    session_at o (Accepted c r nonce ∷ h) k ≡ (if slot_of handle == k then option_map (asserting a) (session_at o h k) else session_at o h k)
asserted_at o h c r nonce k handle body a same auths no_start no_flush asserts =
    elim (slot_of handle == k)
    as (λ t. (slot_of handle == k) ≡ t →
    session_at o (Accepted c r nonce ∷ h) k ≡ (if t then option_map (asserting a) (session_at o h k) else session_at o h k)) [
      | true ↦ λ t. after_policy o h c r nonce k body (a ∷ assertions_of k h) same auths no_start no_flush (asserts ∙ rw t refl)
          ∙ asserted_more o (last_nonce k h) (lives k h) (start_of k h) (assertions_of k h) a
      | false ↦ λ t. after_policy o h c r nonce k body (assertions_of k h) same auths no_start no_flush (asserts ∙ rw t refl)
    ] refl

-- ---- each of the commands

pub restarts : (o : Origin) (h : History) (c : Command) (r : Reply) (nonce : List ℕ) (handle : ℕ) (old new : List (Option Session)) →
    new ≡ with_slot (slot_of handle) (option_map restarted) old →
    c.body ≡ bodies.PolicyRestart handle → c.auths.items ≡ [] → old ≡ sessions_at o h → new ≡ sessions_at o (Accepted c r nonce ∷ h)
restarts o h c r nonce handle old new is same auths = step_changed o h c r nonce (slot_of handle) (option_map restarted) old new is (λ k.
    elim (slot_of handle == k)
    as (λ t. (slot_of handle == k) ≡ t →
    session_at o (Accepted c r nonce ∷ h) k ≡ (if t then option_map restarted (session_at o h k) else session_at o h k)) [
      | true ↦ λ t. after_policy o h c r nonce k (bodies.PolicyRestart handle) [] same auths refl refl (rw t refl)
          ∙ asserted_no_more o (last_nonce k h) (lives k h) (start_of k h) (assertions_of k h)
      | false ↦ λ t. after_policy o h c r nonce k (bodies.PolicyRestart handle) (assertions_of k h) same auths refl refl (rw t refl)
    ] refl)

pub asserts_auth_value : (o : Origin) (h : History) (c : Command) (r : Reply) (nonce : List ℕ) (handle : ℕ) (old new : List (Option Session)) →
    new ≡ with_slot (slot_of handle) (option_map (asserting AuthValueAsserted)) old →
    c.body ≡ bodies.PolicyAuthValue handle → c.auths.items ≡ [] → old ≡ sessions_at o h → new ≡ sessions_at o (Accepted c r nonce ∷ h)
asserts_auth_value o h c r nonce handle old new is same auths =
    step_changed o h c r nonce (slot_of handle) (option_map (asserting AuthValueAsserted)) old new is
    (λ k. asserted_at o h c r nonce k handle (bodies.PolicyAuthValue handle) AuthValueAsserted same auths refl refl refl)

pub asserts_code : (o : Origin) (h : History) (c : Command) (r : Reply) (nonce : List ℕ) (handle code : ℕ) (old new : List (Option Session)) →
    new ≡ with_slot (slot_of handle) (option_map (asserting (CodeAsserted code))) old →
    c.body ≡ bodies.PolicyCommandCode handle code → c.auths.items ≡ [] → old ≡ sessions_at o h → new ≡ sessions_at o (Accepted c r nonce ∷ h)
asserts_code o h c r nonce handle code old new is same auths =
    step_changed o h c r nonce (slot_of handle) (option_map (asserting (CodeAsserted code))) old new is
    (λ k. asserted_at o h c r nonce k handle (bodies.PolicyCommandCode handle code) (CodeAsserted code) same auths refl refl refl)

pub asserts_choice : (o : Origin) (h : History) (c : Command) (r : Reply) (nonce : List ℕ) (handle : ℕ) (digests : List (List ℕ))
    (old new : List (Option Session)) →
    new ≡ with_slot (slot_of handle) (option_map (asserting (OrAsserted digests))) old →
    c.body ≡ bodies.PolicyOr handle digests → c.auths.items ≡ [] → old ≡ sessions_at o h → new ≡ sessions_at o (Accepted c r nonce ∷ h)
asserts_choice o h c r nonce handle digests old new is same auths =
    step_changed o h c r nonce (slot_of handle) (option_map (asserting (OrAsserted digests))) old new is
    (λ k. asserted_at o h c r nonce k handle (bodies.PolicyOr handle digests) (OrAsserted digests) same auths refl refl refl)

-- ---- TPM2_PolicyPCR, which asserts by the type and the hash of its session

of_kind : (handle : ℕ) (s : Option Session) (held : Session) → if_of_kind handle s ≡ Some held → s ≡ Some held
of_kind handle None held e = absurd (none-some held e)
of_kind handle (Some s) held e =
    elim (is_handle_of handle s) as (λ t. (if t then Some s else None) ≡ Some held → ◌≡◌ {A = Option Session} (Some s) (Some held)) [
      | true ↦ λ e'. e'
      | false ↦ λ e'. absurd (none-some held e')
    ] e

in_slot : (o : Origin) (h : History) (slot : ℕ) (held : Session) → session_in (sessions_at o h) slot ≡ Some held → session_at o h slot ≡ Some held
in_slot o h zero held e = e
in_slot o h (suc zero) held e = e
in_slot o h (suc (suc zero)) held e = e
in_slot o h (suc (suc (suc n))) held e = absurd (none-some held e)

-- the session of a handle is the one that lives in its slot
lives_there : (o : Origin) (h : History) (handle : ℕ) (held : Session) (old : List (Option Session)) → loaded old handle ≡ Some held → old ≡ sessions_at o h →
    session_at o h (slot_of handle) ≡ Some held
lives_there o h handle held old found at =
    in_slot o h (slot_of handle) held
    (of_kind handle (session_in (sessions_at o h) (slot_of handle)) held (ap (λ (l : List (Option Session)). loaded l handle) (sym at) ∙ found))

same_slot : (j k : ℕ) → (j == k) ≡ true → j ≡ k
same_slot j k t = grind (arith, nat_tests, t)

pub asserts_registers : (o : Origin) (h : History) (c : Command) (r : Reply) (nonce : List ℕ) (handle : ℕ) (pcr_digest : List ℕ) (selections : List Selection)
    (now : Registers) (held : Session) (old new : List (Option Session)) →
    new ≡ with_slot (slot_of handle) (option_map (asserting (pcr_assertion now held.session_type held.hash pcr_digest selections))) old →
    loaded old handle ≡ Some held →
    c.body ≡ bodies.PolicyPcr handle (record { pcr_digest = pcr_digest; selections = selections }) →
    c.auths.items ≡ [] → now ≡ registers_after (changes h) → old ≡ sessions_at o h →
    new ≡ sessions_at o (Accepted c r nonce ∷ h)
asserts_registers o h c r nonce handle pcr_digest selections now held old new is found same auths are at =
    let a = pcr_assertion now held.session_type held.hash pcr_digest selections in
    let there = lives_there o h handle held old found at in
    step_changed o h c r nonce (slot_of handle) (option_map (asserting a)) old new is (λ k.
    elim (slot_of handle == k)
    as (λ t. (slot_of handle == k) ≡ t →
    session_at o (Accepted c r nonce ∷ h) k ≡ (if t then option_map (asserting a) (session_at o h k) else session_at o h k)) [
      | true ↦ λ t.
          let here : session_at o h k ≡ Some held = rw (← same_slot (slot_of handle) k t) there in
          after_policy o h c r nonce k (bodies.PolicyPcr handle (record { pcr_digest = pcr_digest; selections = selections }))
          (pcr_asserted now (start_of k h) pcr_digest selections (assertions_of k h)) same auths refl refl (rw (t, ← are) refl)
          ∙ pcr_asserted_more o (last_nonce k h) (lives k h) (start_of k h) (assertions_of k h) now pcr_digest selections held here
      | false ↦ λ t.
          after_policy o h c r nonce k (bodies.PolicyPcr handle (record { pcr_digest = pcr_digest; selections = selections }))
          (assertions_of k h) same auths refl refl (rw t refl)
    ] refl) at

-- ---- the policy digest

digest_of_living : (o : Origin) (last : List ℕ) (lives : Bool) (start : Option Start) (made : List Assertion) (held : Session) →
    living o last lives start made ≡ Some held → held.policy.digest ≡ policy_digest held.hash made
digest_of_living o last false start made held e = absurd (none-some held e)
digest_of_living o last true None made held e = absurd (none-some held e)
digest_of_living o last true (Some s) made held e = rw (← same_Some (as_session o last made s) held e) refl

pub digest_held : (o : Origin) (h : History) (handle : ℕ) (held : Session) (old : List (Option Session)) →
    loaded old handle ≡ Some held → old ≡ sessions_at o h →
    held.policy.digest ≡ policy_digest held.hash (assertions_of (slot_of handle) h)
digest_held o h handle held old found at =
    digest_of_living o (last_nonce (slot_of handle) h) (lives (slot_of handle) h) (start_of (slot_of handle) h) (assertions_of (slot_of handle) h) held
    (lives_there o h handle held old found at)
