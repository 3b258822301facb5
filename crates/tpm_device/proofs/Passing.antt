-- What was permitted and performed is the answer.
use Rattle.std.proofs.Common.{◌≡◌, ℕ, ◌<◌, Bool, true, false, List, [], ◌∷◌, Option, None, Some, Result, Ok, Err, refl}
use Rattle.std.proofs.Common.{sym, ap, subst, ◌∙◌}
use Rattle.std.specs.Prelude.{IfOk, IfErr}
use Rattle.arrayvec.specs.ArrayVec.{ArrayVec}
use Rattle.tpm_wire.specs.declared.refusal.Refusal.{Refusal}
use Rattle.tpm_wire.specs.Token.{at_start}
use Rattle.tpm_wire.specs.Reading.{read, read_all, ◌>>=◌}
use Rattle.tpm_wire.specs.Spelling.{spelling}
use Rattle.tpm_types.specs.declared.tpms.AuthReply.{AuthReply}
use Rattle.tpm_types.specs.Handles.{is_owner}
use Rattle.tpm_types.specs.declared.command_code.CommandCode.{CommandCode}
use Rattle.tpm_commands.specs.declared.command.CommandBody.{CommandBody}
use Rattle.tpm_commands.specs.declared.command.Header.{Header}
use Rattle.tpm_commands.specs.declared.command.Params.{Params}
use Rattle.tpm_commands.specs.declared.command.ReplyBody.{ReplyBody}
use Rattle.tpm_commands.specs.Handles.{first, needs_authorization}
use Rattle.tpm_commands.specs.Parameters.{parameters}
use Rattle.tpm_commands.specs.Replies.{code_for_reply}
use Rattle.tpm_buffer.specs.CommandAreas.{HeaderCut, HandlesCut, Cut, head_and_rest, params_here, IsHandled, IsAreas}
use Rattle.tpm_buffer.specs.Commands.{authorization, command_size, header, body_from, code_for}
use Rattle.tpm_buffer.specs.Responses.{response_tag, response_front, response_code, response, done_with}
use Rattle.tpm_model.specs.Present.{Present}
use Rattle.tpm_model.specs.Sessions.{Session, loaded}
use Rattle.tpm_model.specs.Entities.{entity_of, names_of}
use Rattle.tpm_model.specs.Authorization.{Evidence, first_loaded, reply_auths, check_evidence}
use Rattle.tpm_model.specs.Actions.{action}
use Rattle.tpm_model.specs.Answers.{Presented, Done, check_started, check_handles, check_tag, presented, permitted}
use Rattle.tpm_model.specs.Answers.{performed, outcome, answered, reply_params}
use Rattle.tpm_model.specs.Premises.{code_in}
use Rattle.tpm_model.proofs.Accepted.{ok_is}
use Rattle.tpm_model.proofs.Refused.{refused_with}
use Rattle.tpm_model.proofs.OwnCode.{no_session_read, needs_it}
use Rattle.tpm_session.specs.declared.authorize.Authorization.{Authorization}
use Rattle.tpm_session.specs.Entities.{IsAuthorization}
use Rattle.tpm_device.specs.declared.device.Device.{Device}
use Rattle.tpm_device.specs.Stands.{holds}
use Rattle.tpm_device.specs.inner.Checks.{evidence_for, sessions_checked, owner_authorizes, IsAdmitted, IsRead}
use Rattle.tpm_device.specs.inner.Checks.{IsPermittedBy, presented_with}
use Rattle.tpm_device.specs.inner.Actions.{step_of, done_of, Steps}
use Rattle.tpm_device.specs.inner.Answers.{Replies, Rolls, reply_bytes, told}
use Rattle.tpm_device.specs.inner.Performing.{MayBePerformed, IsPerformed, Begin, End}
use Rattle.tpm_device.proofs.Alike.{alike}
use Rattle.tpm_device.proofs.Checked.{owner_read}
use Rattle.tpm_session.proofs.Authorized.{authorized}

-- ---- before the parameters

pub is_read : (p : Present) (bytes : List ℕ) (x : HeaderCut) (y : HandlesCut) (z : Cut) → read 0 header (at_start bytes) ≡ Ok (head_and_rest x)
    → check_started p.started x.header.code ≡ Ok tt → IsHandled x (Ok y) → check_handles p 1 y.handles ≡ Ok tt →
    check_tag x.header.code x.header.tag ≡ Ok tt → IsAreas y (Ok z)
    → IsRead p (presented p bytes) (Ok z)
is_read p bytes x y z head started handled handles tag areas =
    let same : y.header ≡ x.header = handled.1 in
    let read_areas = areas.0 in
    rw (head, started, handled.0, handles, tag, ← same, read_areas, areas.1, areas.2) refl

pub tag_refused : (p : Present) (bytes : List ℕ) (x : HeaderCut) (y : HandlesCut) (code : ℕ) → read 0 header (at_start bytes) ≡ Ok (head_and_rest x)
    → check_started p.started x.header.code ≡ Ok tt → IsHandled x (Ok y) → check_handles p 1 y.handles ≡ Ok tt → check_tag x.header.code x.header.tag ≡ Err code
    → presented p bytes ≡ Err code
tag_refused p bytes x y code head started handled handles tag = rw (head, started, handled.0, handles, tag) refl

pub areas_refused : (p : Present) (bytes : List ℕ) (x : HeaderCut) (y : HandlesCut) (e : Refusal) → read 0 header (at_start bytes) ≡ Ok (head_and_rest x)
    → check_started p.started x.header.code ≡ Ok tt → IsHandled x (Ok y) → check_handles p 1 y.handles ≡ Ok tt →
    check_tag x.header.code x.header.tag ≡ Ok tt → IsAreas y (Err e)
    → presented p bytes ≡ Err e.code
areas_refused p bytes x y e head started handled handles tag areas =
    let same : y.header ≡ x.header = handled.1 in
    rw (head, started, handled.0, handles, tag, ← same, areas) refl

pub admitted : (x : HeaderCut) (y : HandlesCut) (z : Cut) → IsHandled x (Ok y) → check_tag x.header.code x.header.tag ≡ Ok tt → IsAreas y (Ok z) → IsAdmitted z
admitted x y z handled tag areas =
    let same : z.header ≡ x.header = areas.1 ∙ handled.1 in
    record {
      owner = λ is. ap (λ (ns : List ℕ). is_owner (first ns)) areas.2
          ∙ owner_read x.header.code x.here y.handles y.here handled.0 (ap (λ (k : Header). owner_authorizes k.code) (sym same) ∙ is);
      sessions = λ not. no_session_read x.header.code x.header.tag y.here z.auths (params_here z) tag
          (ap (λ (k : Header). read 0 (authorization k.tag) y.here) (sym handled.1) ∙ areas.0)
          (ap (λ (k : Header). needs_authorization k.code) (sym same) ∙ not);
    }

-- ---- the checks of the sessions

then_same : {A B : Type 0} (r : Result A ℕ) (f g : A → Result B ℕ) → ((x : A) → f x ≡ g x) → (r >>= f) ≡ (r >>= g)
then_same (Ok x) f g same = same x
then_same (Err code) f g same = refl

kept : (p : Present) (x : Cut) (r : Result (Unit {0}) ℕ) (e : Evidence) (code : ℕ) → r ≡ Err code → (r >>= λ _. Ok (presented_with p x e)) ≡ Err code
kept p x r e code is = rw is refl

refused_by : (p : Present) (x : Cut) (r : Result Evidence ℕ) (code : ℕ) → (r >>= check_evidence (entity_of p (first x.handles))) ≡ Err code
    → ((r >>= λ e. Ok (presented_with p x e)) >>= λ y. (check_evidence y.entity y.evidence >>= λ _. Ok y)) ≡ Err code
refused_by p x (Ok e) code is = kept p x (check_evidence (entity_of p (first x.handles)) e) e code is
refused_by p x (Err other) code is = cc

-- What was read is refused by the checks of its sessions, or has evidence that is right.
pub sessions_refuse : (p : Present) (bytes : List ℕ) (x : Cut) (code : ℕ) → IsRead p (presented p bytes) (Ok x)
    → sessions_checked p x ≡ Err code → permitted p bytes ≡ Err code
sessions_refuse p bytes x code read refused = rw read (refused_by p x (evidence_for p x) code refused)

pub sessions_permit : (p : Present) (bytes : List ℕ) (x : Cut) → IsRead p (presented p bytes) (Ok x)
    → sessions_checked p x ≡ Ok tt → IsPermittedBy p (permitted p bytes) x
sessions_permit p bytes x read met =
    let right = authorized (first_loaded (loaded p.sessions) x.auths) (entity_of p (first x.handles)) x.header.code
    (names_of p x.handles) x.params p.registers.update_counter x.auths met in
    record { evidence = right.0; gives = right.1; is = rw (read, right.1, right.2) refl }

-- ---- the parameters

performed_is : (p : Present) (n : List ℕ) (x : Presented) (params : Params) → read_all (parameters x.code) x.params ≡ Ok params →
    performed p n x ≡ done_of p n x (body_from x.handles params)
performed_is p n x params reads = rw reads refl

-- What refuses the parameters or the action refuses what is performed.
pub params_refuse : (p : Present) (n : List ℕ) (x : Cut) (params : Params) (r : Result (Unit {0}) ℕ) → read_all (parameters x.header.code) x.params ≡ Ok params
    → IfErr r (λ code. (y : Presented) → y.code ≡ x.header.code → y.handles ≡ x.handles → y.params ≡ x.params →
    done_of p n y (body_from x.handles params) ≡ Err code)
    → IfErr r (λ code. (y : Presented) → y.code ≡ x.header.code → y.handles ≡ x.handles → y.params ≡ x.params → performed p n y ≡ Err code)
params_refuse p n x params (Ok u) reads refuses = tt
params_refuse p n x params (Err code) reads refuses = λ y own handles is.
    performed_is p n y params (rw (own, is) reads) ∙ ap (λ (hs : List ℕ). done_of p n y (body_from hs params)) handles ∙ refuses y own handles is

-- What is done with the parameters that were read is performed.
pub with_params : {old : Begin} {new : End} (x : Cut) (params : Params) → read_all (parameters x.header.code) x.params ≡ Ok params
    → IsPerformed x (λ y. done_of (holds old.device) old.nonce y (body_from x.handles params)) old new →
    IsPerformed x (performed (holds old.device) old.nonce) old new
with_params {old} {new} x params reads did = record {
  answer = λ e o h gives st. rw reads (did.answer e o h gives st);
  stands = λ e o h gives st. rw reads (did.stands e o h gives st);
  refuses = params_refuse (holds old.device) old.nonce x params new.result reads did.refuses;
  refused = did.refused;
  done = did.done;
  none = did.none;
}

-- A refusal leaves all as it was.
abbrev pub refused_with_code : Begin → ℕ → End
refused_with_code old code = record { result = Err code; device = old.device; out = old.out }

-- Parameters that cannot be read refuse the command.
pub without_params : (old : Begin) (x : Cut) (fault : Refusal) → read_all (parameters x.header.code) x.params ≡ Err fault
    → IsPerformed x (performed (holds old.device) old.nonce) old (refused_with_code old fault.code)
without_params old x fault reads = record {
  answer = λ e o h gives st. rw reads refl;
  stands = λ e o h gives st. rw reads st;
  refuses = λ y own handles is. rw (own, is, reads) refl;
  refused = refl;
  done = tt;
  none = refl;
}

-- ---- the action

by_none : (x : Cut) (s t : List (Option Session)) (needs : Bool) → (needs ≡ false → x.auths ≡ []) → (by : Option Authorization) → IsAuthorization s x.auths by →
    (needs ≡ true → t ≡ s) → IsAuthorization t x.auths by
by_none x s t needs none None is same = is
by_none x s t true none (Some a) is same = subst (λ (u : List (Option Session)). IsAuthorization u x.auths (Some a)) (sym (same refl)) is
by_none x s t false none (Some a) is same = absurd (let empty : a.first.now ∷ is.others ≡ [] = sym is.are ∙ none refl in cc)

-- A command that has acted is authorized as before.
pub stays_authorized : (old new : Device) (x : Cut) (by : Option Authorization) (out : ArrayVec ℕ) → MayBePerformed old x by out
    → (needs_authorization x.header.code ≡ true → new.sessions ≡ old.sessions) → IsAuthorization new.sessions x.auths by
stays_authorized old new x by out ready same =
    by_none x old.sessions new.sessions (needs_authorization x.header.code) ready.admitted.sessions by ready.authorized same

-- A command that acted, was answered and rolled its session is done.
pub was_done : (old : Begin) (mid new : Device) (x : Cut) (by : Option Authorization) (body : CommandBody) (reply : ReplyBody) (after : ArrayVec ℕ) →
    MayBePerformed old.device x by old.out → code_for body ≡ x.header.code
    → Ok reply ≡ action (holds old.device) body old.nonce → Steps old.device mid (step_of body reply old.nonce)
    → Replies mid x (record { body = reply; nonce = old.nonce; bytes = after.items }) → code_in after.items ≡ 0 → Rolls mid x.auths old.nonce new
    → IsPerformed x (λ y. done_of (holds old.device) old.nonce y body) old (record { result = Ok tt; device = new; out = after })
was_done old mid new x by body reply after ready code is steps replies done rolls = record {
  answer = λ e o h gives st.
      rw (← is) (ap (λ (b : List ℕ). let r : Result (List ℕ) ℕ = Ok b in r)
      (replies (holds old.device) e (λ a others are. alike o h old.device mid body reply old.nonce (first x.handles) st (steps o h st)
      (ap needs_authorization code ∙ needs_it (needs_authorization x.header.code) x.auths a others ready.admitted.sessions are)
      (λ own. ready.admitted.owner (rw (← code) own))) gives));
  stands = λ e o h gives st.
      rw (← is) (rolls o h body reply (reply_auths e x.header.code (reply_params reply) old.nonce)
      (λ not. ready.admitted.sessions (rw (← code) not)) (steps o h st));
  refuses = tt;
  refused = tt;
  done = done;
  none = tt;
}

-- What the action refuses is refused.
pub was_refused : (old : Begin) (new : Device) (x : Cut) (body : CommandBody) (code : ℕ) →
    Err code ≡ action (holds old.device) body old.nonce → new ≡ old.device
    → IsPerformed x (λ y. done_of (holds old.device) old.nonce y body) old (record { result = Err code; device = new; out = old.out })
was_refused old new x body code is same = record {
  answer = λ e o h gives st. rw (← is) refl;
  stands = λ e o h gives st. rw (← is, same) st;
  refuses = λ y own handles params. rw (← is) refl;
  refused = same;
  done = tt;
  none = refl;
}

-- ---- the outcome

pub some_code : (p : Present) (bytes n : List ℕ) (code : ℕ) → outcome p bytes n ≡ Err code → 0 < code
some_code p bytes n code is = (refused_with p bytes n code is).0

-- what refuses the parameters or the action refuses the command
pub outcome_refuses : (p : Present) (bytes n : List ℕ) (x : Cut) (r : Result (Unit {0}) ℕ) → IsPermittedBy p (permitted p bytes) x
    → IfErr r (λ code. (y : Presented) → y.code ≡ x.header.code → y.handles ≡ x.handles → y.params ≡ x.params → performed p n y ≡ Err code) →
    IfErr r (λ code. outcome p bytes n ≡ Err code)
outcome_refuses p bytes n x (Ok u) by refuses = tt
outcome_refuses p bytes n x (Err code) by refuses = rw by.is (refuses (presented_with p x by.evidence) refl refl refl)

pub some_codes : (p : Present) (bytes n : List ℕ) (r : Result (Unit {0}) ℕ) → IfErr r (λ code. outcome p bytes n ≡ Err code) → IfErr r (λ code. 0 < code)
some_codes p bytes n (Ok u) is = tt
some_codes p bytes n (Err code) is = some_code p bytes n code is

-- ---- the bytes

pub reply_is_done : (body : ReplyBody) (auths : List AuthReply) → code_in (reply_bytes (record { body = body; auths = auths })) ≡ 0
unfolding response response_front response_tag response_code command_size
reply_is_done body auths = refl

-- What was done is answered by its reply, and a code that fails stands alone.
pub reply_told : (r : Result Done ℕ) (items : List ℕ) → IfOk r (λ d. code_for d.command.body ≡ code_for_reply d.reply.body) →
    Ok items ≡ told r → items ≡ answered r
reply_told (Ok d) items own is = ok_is items _ is ∙ ap (λ (code : CommandCode). spelling (response code) (done_with d.reply)) (sym own)
reply_told (Err e) items own is = absurd (cc)

-- What is performed where nothing was done is performed from the beginning.
pub from_begin : (x : Cut) (d e : Device) (n : List ℕ) (o p : ArrayVec ℕ) (new : End) → d ≡ e → o ≡ p
    → IsPerformed x (performed (holds d) n) (record { device = d; nonce = n; out = o }) new
    → IsPerformed x (performed (holds e) n) (record { device = e; nonce = n; out = p }) new
from_begin x d e n o p new same unwritten did =
    subst (λ (a : ArrayVec ℕ). IsPerformed x (performed (holds e) n) (record { device = e; nonce = n; out = a }) new) unwritten
    (subst (λ (a : Device). IsPerformed x (performed (holds a) n) (record { device = a; nonce = n; out = o }) new) same did)
