-- A caller that is made from an accepted start is in step.
use Rattle.std.proofs.Common.{◌≡◌, ℕ, ◌+◌, ◌≤◌, List, ◌∷◌, length, Ok, Some, None, Option, Bool, true, false, ◌||◌}
use Rattle.std.proofs.Common.{refl, sym, ap, ◌∙◌, subst, arith, inl, inr, length-take}
use Rattle.std.proofs.lemmas.Bool.Decides.{nat_tests}
use Rattle.std.proofs.lemmas.Bool.{le-leb, eq-eqb}
use Rattle.std.specs.Prelude.{◌==◌, nat_lt, if◌then◌else◌, is_none, ok_or, Result}
use Rattle.tpm_wire.specs.ResponseCodes.{rc_session_memory, rc_size, of_parameter}
use Rattle.tpm_wire.proofs.Agreement.{bind_ok}
use Rattle.tpm_types.specs.declared.handle_sets.BindHandle.{BindHandle}
use Rattle.tpm_types.specs.declared.alg.Alg.{Alg}
use Rattle.tpm_types.specs.Alg.{digest_len}
use Rattle.tpm_types.specs.Handles.{is_hmac_session, is_policy}
use Rattle.tpm_types.proofs.Algs.{digest_most}
use Rattle.tpm_types.specs.declared.handle_sets.BindHandle.TheVariants as binds
use Rattle.tpm_commands.specs.declared.command.CommandBody.TheVariants as bodies
use Rattle.tpm_commands.specs.declared.command.StartAuth.{StartAuth}
use Rattle.tpm_commands.specs.declared.command.ReplyBody.{ReplyBody}
use Rattle.tpm_commands.specs.declared.response.StartReply.{StartReply}
use Rattle.tpm_commands.specs.declared.command.ReplyBody.TheVariants as replies
use Rattle.tpm_hmac.specs.Sessions.{trim, session_key}
use Rattle.tpm_model.specs.Steps.{History, Accepted, Origin}
use Rattle.tpm_model.specs.Sessions.{Session, slot_of, is_hmac, handle_for, begun, Start, assertions_of, as_session}
use Rattle.tpm_model.specs.Sessions.{session_at, session_in, sessions_at, loaded, if_of_kind, is_handle_of, bound_value}
use Rattle.tpm_model.specs.Sessions.{nonce_from, free_slot}
use Rattle.tpm_model.specs.Present.{present}
use Rattle.tpm_model.specs.Authorization.{refuse}
use Rattle.tpm_model.specs.Actions.{action, start_session}
use Rattle.tpm_model.specs.Answers.{Done, outcome, next}
use Rattle.tpm_model.specs.InStep.{CallerSession, InStep}
use Rattle.tpm_model.specs.Callers.{nonces_fit, bound_to, started_with}
use Rattle.tpm_model.specs.Premises.{nonce_bytes}
use Rattle.tpm_model.proofs.Accepted.{passed, next_is, ok_is, some, some_is, was_some}
use Rattle.tpm_model.proofs.Slots.{IsSlot, each_slot, in_slot}
use Rattle.tpm_model.proofs.Nonces.{bounds}

-- ---- what was answered

abbrev start_reply : StartReply → ReplyBody
start_reply r = replies.StartAuthSession r

reply_is : (r t : StartReply) → start_reply r ≡ start_reply t → r ≡ t
reply_is r t e = cc

slot_is : (sessions : List (Option Session)) (k : ℕ) → free_slot sessions ≡ Some k → IsSlot k
slot_is sessions k e = go (is_none (session_in sessions 0)) (is_none (session_in sessions 1)) (is_none (session_in sessions 2)) e
  where
    go : (a b c : Bool) → (if a then Some 0 else if b then Some 1 else if c then Some 2 else None) ≡ Some k → IsSlot k
    go true b c e = inl (some_is 0 k e)
    go false true c e = inr (inl (some_is 1 k e))
    go false false true e = inr (inr (some_is 2 k e))
    go false false false e = absurd (let z : ⊥ = cc in z)

kind_by : (by_hmac : Bool) (k : ℕ) → IsSlot k
    → (if by_hmac then is_hmac_session ((if by_hmac then 0x02000000 else 0x03000000) + k) else is_policy ((if by_hmac then 0x02000000 else 0x03000000) + k))
    ≡ true
kind_by true = each_slot (λ i. is_hmac_session (0x02000000 + i) ≡ true) refl refl refl
kind_by false = each_slot (λ i. is_policy (0x03000000 + i) ≡ true) refl refl refl

-- the handle is of its slot
slot_by : (by_hmac : Bool) (k : ℕ) → IsSlot k → IsSlot (slot_of ((if by_hmac then 0x02000000 else 0x03000000) + k))
slot_by true = each_slot (λ i. IsSlot (slot_of (0x02000000 + i))) (inl refl) (inr (inl refl)) (inr (inr refl))
slot_by false = each_slot (λ i. IsSlot (slot_of (0x03000000 + i))) (inl refl) (inr (inl refl)) (inr (inr refl))

-- what an accepted start has passed
record Answered (q : StartAuth) (n : List ℕ) (r : StartReply) : Type 0 where
  least : 16 ≤ length q.params.nonce_caller
  most : length q.params.nonce_caller ≤ digest_len q.params.auth_hash
  slot : ℕ
  free : IsSlot slot
  is : r ≡ record { session = handle_for q.params.session_type slot; nonce_tpm = nonce_from q n }

answered_start : (sessions : List (Option Session)) (q : StartAuth) (n : List ℕ) (r : StartReply) → start_session sessions q n ≡ Ok (replies.StartAuthSession r)
    → Answered q n r
answered_start sessions q n r e =
    let a =
    bind_ok
    (refuse (nat_lt (length q.params.nonce_caller) 16 || nat_lt (digest_len q.params.auth_hash) (length q.params.nonce_caller)) (rc_size + of_parameter 1)) _
    (start_reply r) e in
    let b = bind_ok (ok_or (free_slot sessions) rc_session_memory) _ (start_reply r) a.2 in
    let both = bounds (length q.params.nonce_caller) (digest_len q.params.auth_hash) (rc_size + of_parameter 1) a.1 in
    let made : StartReply = record { session = handle_for q.params.session_type b.0; nonce_tpm = nonce_from q n } in
    record {
      least = both.0;
      most = both.1;
      slot = b.0;
      free = slot_is sessions b.0 (was_some (free_slot sessions) rc_session_memory b.0 b.1);
      is = sym (reply_is made r (ok_is (start_reply made) (start_reply r) b.2));
    }

-- ---- the session

one_key : (o : Origin) (alg : Alg) (bind : BindHandle) (auth n c : List ℕ) → (bind ≡ binds.Owner → trim auth ≡ trim o.owner)
    → session_key alg (bound_value o bind) n c ≡ session_key alg (bound_to bind auth) n c
one_key o alg binds.Owner auth n c same = rw (same refl) refl
one_key o alg binds.Null auth n c same = refl

pub starts : (o : Origin) (h : History) (bytes n : List ℕ) (d : Done) (q : StartAuth) (r : StartReply) (auth : List ℕ)
    → outcome (present o h) bytes n ≡ Ok d → d.command.body ≡ bodies.StartAuthSession q → d.reply.body ≡ replies.StartAuthSession r → length n ≡ nonce_bytes
    → (q.bind ≡ binds.Owner → trim auth ≡ trim o.owner)
    → (c : CallerSession) × (started_with q r auth ≡ Some c) × InStep o (next o h bytes n) c
starts o h bytes n d q r auth e body reply whole same =
    let p = present o h in
    let s = passed p bytes n d e in
    let x =
    answered_start p.sessions q n r (ap (λ b. action p b n) (sym body) ∙ s.act ∙ ap (λ (b : ReplyBody). let z : Result ReplyBody ℕ = Ok b in z) reply) in
    let g : History = Accepted d.command d.reply n ∷ h in
    let k = slot_of r.session in
    let tpm : r.nonce_tpm ≡ nonce_from q n = ap (λ (z : StartReply). z.nonce_tpm) x.is in
    let long : length r.nonce_tpm ≡ length q.params.nonce_caller =
    omega (arith, ap length tpm, length-take (length q.params.nonce_caller) n, whole, x.most, digest_most q.params.auth_hash) in
    let fit : nonces_fit q r ≡ true =
    rw (
      eq-eqb (length r.nonce_tpm) (length q.params.nonce_caller) long,
      le-leb 16 (length q.params.nonce_caller) x.least,
      le-leb (length q.params.nonce_caller) (digest_len q.params.auth_hash) x.most,
    )
    refl in
    let c : CallerSession =
    record {
      handle = r.session;
      hash = q.params.auth_hash;
      key = session_key q.params.auth_hash (bound_to q.bind auth) r.nonce_tpm q.params.nonce_caller;
      nonce = r.nonce_tpm;
    } in
    let by : begun k d.command.body d.reply.body ≡ Some q =
    ap (λ b. begun k b d.reply.body) body ∙ ap (begun k (bodies.StartAuthSession q)) reply
    ∙ ap (λ (b : Bool). if b then some q else None) (let it : (slot_of r.session == slot_of r.session) ≡ true = grind (arith, nat_tests) in it) in
    let start : Start = record { request = q; nonce = n } in
    let z = as_session o n (assertions_of k g) start in
    let there : session_at o g k ≡ Some z = rw by refl in
    let kind : is_handle_of r.session z ≡ true =
    subst (λ (t : StartReply). is_handle_of t.session z ≡ true) (sym x.is) (kind_by (is_hmac q.params.session_type) x.slot x.free) in
    let slot : IsSlot k = subst (λ (t : StartReply). IsSlot (slot_of t.session)) (sym x.is) (slot_by (is_hmac q.params.session_type) x.slot x.free) in
    let load : loaded (sessions_at o g) r.session ≡ Some z =
    ap (if_of_kind r.session) (in_slot o g k slot ∙ there) ∙ ap (λ b. if b then some z else None) kind in
    let step : InStep o g c = (
      z,
      load,
      record {
        hash = refl;
        key =
            one_key o q.params.auth_hash q.bind auth (nonce_from q n) q.params.nonce_caller same
            ∙ ap (λ (t : List ℕ). session_key q.params.auth_hash (bound_to q.bind auth) t q.params.nonce_caller) (sym tpm);
        nonce = sym tpm;
        length = sym long;
      },
    ) in
    (c, ap (λ b. if b then some c else None) fit, subst (λ l. InStep o l c) (sym (next_is o h bytes n d e)) step)
