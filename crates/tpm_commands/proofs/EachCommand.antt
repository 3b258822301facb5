-- What holds of each command, a line for each.
use Rattle.std.proofs.Common.{◌≡◌, ℕ, ◌≤◌, Bool, true, false, cond, List, [], ◌∷◌, Some, None, Result, Ok, refl, sym}
use Rattle.std.proofs.Common.{subst, ap, arith}
use Rattle.std.proofs.lemmas.Bool.{eqb-true}
use Rattle.std.specs.Prelude.{is_some}
use Rattle.tpm_wire.specs.declared.refusal.Refusal.{Refusal}
use Rattle.tpm_wire.specs.ResponseCodes.{rc_value, of_parameter}
use Rattle.tpm_wire.specs.Token.{Here}
use Rattle.tpm_wire.specs.Layout.{Form}
use Rattle.tpm_wire.specs.Reading.{read}
use Rattle.tpm_wire.specs.Buffers.{buffer, Layout}
use Rattle.tpm_wire.proofs.Agreement.{ok_is, bind_ok}
use Rattle.tpm_wire.proofs.Longer.{TakesAtMost, at_most_more, at_most_done, at_most_number, at_most_number_in, in_set}
use Rattle.tpm_wire.proofs.Longer.{at_most_sized_bytes, at_most_sized, at_most_counted}
use Rattle.tpm_types.specs.declared.handle_sets.PcrOrNull.TheVariants as pcrs
use Rattle.tpm_types.specs.declared.handle_sets.NvAuthHandle.TheVariants as nv
use Rattle.tpm_types.specs.declared.handle_sets.BindHandle.TheVariants as binds
use Rattle.tpm_types.specs.Limits.{digest_bytes, public_bytes, banks}
use Rattle.tpm_types.specs.Constants.{startup_of, startup_number, startup_type, session_type_of, session_type_number}
use Rattle.tpm_types.specs.Constants.{session_type}
use Rattle.tpm_types.specs.Handles.{rh_owner, rh_null, is_owner, is_null, is_pcr, is_nv_index, is_policy, session}
use Rattle.tpm_types.specs.Handles.{is_session}
use Rattle.tpm_types.specs.HandleSets.{pcr_or_null_of, pcr_or_null_number, nv_auth_of, nv_auth_number, bind_of}
use Rattle.tpm_types.specs.HandleSets.{bind_number}
use Rattle.tpm_types.specs.Tpm2b.{digest, salt_of, salt_size, encrypted_salt}
use Rattle.tpm_types.specs.Tpml.{most_digests}
use Rattle.tpm_types.specs.Tpms.{selection, nv_public_area, nv_public}
use Rattle.tpm_types.specs.Tpmt.{digest_value}
use Rattle.tpm_types.specs.declared.command_code.CommandCode.{CommandCode}
use Rattle.tpm_commands.specs.declared.command_handles.HandleKind.{HandleKind}
use Rattle.tpm_commands.specs.declared.command.Params.{Params}
use Rattle.tpm_commands.specs.declared.command.ReplyBody.{ReplyBody}
use Rattle.tpm_commands.specs.Events.{event_bytes}
use Rattle.tpm_commands.specs.Handles.{admits, AreAdmitted, handle_kinds, first, second}
use Rattle.tpm_commands.specs.Parameters.{params_code, parameters}
use Rattle.tpm_commands.specs.Commands.Nv.{nv_define_space, nv_read, nv_read_reply, nv_read_public_reply}
use Rattle.tpm_commands.specs.Commands.Pcr.{pcr_event, pcr_read, pcr_extend, pcr_event_reply, pcr_read_reply}
use Rattle.tpm_commands.specs.Commands.Startup.{startup}
use Rattle.tpm_commands.specs.Commands.Context.{flush_context}
use Rattle.tpm_commands.specs.Commands.Policy.{policy_command_code, policy_or, policy_pcr, policy_get_digest_reply}
use Rattle.tpm_commands.specs.Commands.Session.{start_auth_session, session_handle, session_in}
use Rattle.tpm_commands.specs.Table.{register_in, index_in, policy_in, pcr_or_null_in, nv_auth_in, bind_in, or_else}
use Rattle.tpm_commands.specs.Table.{body_from, handles_of, params_of}
use Rattle.tpm_commands.specs.Replies.{code_for_reply, reply_handles, reply_handles_of, reply_parameters}
use Rattle.tpm_commands.specs.Commands.Session.{start_auth_session_reply}
use Rattle.tpm_types.proofs.Short.{ok, next, only, of_hash, of_selection, of_digest_value, of_sym_def}
use Rattle.tpm_types.specs.declared.command_code.CommandCode.TheVariants as codes
use Rattle.tpm_commands.specs.declared.command_handles.HandleKind.TheVariants as kinds
use Rattle.tpm_commands.specs.declared.command.Params.TheVariants as params

-- ---- a number that is of its kind is that of the handle made from it

owner_again : (n : ℕ) → is_owner n ≡ true → rh_owner ≡ n
owner_again n t = sym (eqb-true n rh_owner t)

null_again : (n : ℕ) → is_null n ≡ true → rh_null ≡ n
null_again n t = sym (eqb-true n rh_null t)

-- of two kinds, where a number is of the second only if it isn't of the first
either_again : {A : Type 0} (a b : Bool) (x y other : A) (number : A → ℕ) (n : ℕ) → (a ≡ true → number x ≡ n) → (b ≡ true → number y ≡ n)
    → is_some (cond a (Some x) (cond b (Some y) None)) ≡ true → number (or_else (cond a (Some x) (cond b (Some y) None)) other) ≡ n
either_again true b x y other number n first second t = first refl
either_again false true x y other number n first second t = second refl
either_again false false x y other number n first second t = absurd cc

pcr_or_null_again : (n : ℕ) → is_some (pcr_or_null_of n) ≡ true → pcr_or_null_number (pcr_or_null_in n) ≡ n
pcr_or_null_again n = either_again (is_null n) (is_pcr n) pcrs.Null (pcrs.Pcr n) pcrs.Null pcr_or_null_number n (null_again n) (λ _. refl)

nv_auth_again : (n : ℕ) → is_some (nv_auth_of n) ≡ true → nv_auth_number (nv_auth_in n) ≡ n
nv_auth_again n = either_again (is_owner n) (is_nv_index n) nv.Owner (nv.Index n) nv.Owner nv_auth_number n (owner_again n) (λ _. refl)

bind_again : (n : ℕ) → is_some (bind_of n) ≡ true → bind_number (bind_in n) ≡ n
bind_again n = either_again (is_owner n) (is_null n) binds.Owner binds.Null binds.Null bind_number n (owner_again n) (null_again n)

register_again : (n : ℕ) → is_pcr n ≡ true → register_in n ≡ n
register_again n t = rw t refl

index_again : (n : ℕ) → is_nv_index n ≡ true → index_in n ≡ n
index_again n t = rw t refl

policy_again : (n : ℕ) → is_policy n ≡ true → policy_in n ≡ n
policy_again n t = rw t refl

-- ---- the handles and the parameters of a command that was made from them

one : (kind : HandleKind) (a : ℕ) (hs : List ℕ) → AreAdmitted (kind ∷ []) hs → (admits kind (first hs) ≡ true → a ≡ first hs) → a ∷ [] ≡ hs
one kind a (n ∷ ns) t same = rw (same t.0, t.1) refl
one kind a [] t same = absurd t

two : (kind other : HandleKind) (a b : ℕ) (hs : List ℕ) → AreAdmitted (kind ∷ other ∷ []) hs
    → (admits kind (first hs) ≡ true → a ≡ first hs) → (admits other (second hs) ≡ true → b ≡ second hs)
    → a ∷ b ∷ [] ≡ hs
two kind other a b (n ∷ m ∷ ns) t same too = rw (same t.0, too t.1.0, t.1.1) refl
two kind other a b (n ∷ []) t same too = absurd t.1
two kind other a b [] t same too = absurd t

policy : (hs : List ℕ) → AreAdmitted (kinds.Policy ∷ []) hs → policy_in (first hs) ∷ [] ≡ hs
policy hs t = one kinds.Policy _ hs t (policy_again (first hs))

register : (hs : List ℕ) → AreAdmitted (kinds.PcrOrNull ∷ []) hs → pcr_or_null_number (pcr_or_null_in (first hs)) ∷ [] ≡ hs
register hs t = one kinds.PcrOrNull _ hs t (pcr_or_null_again (first hs))

index : (hs : List ℕ) → AreAdmitted (kinds.OwnerOrIndex ∷ kinds.Index ∷ []) hs → nv_auth_number (nv_auth_in (first hs)) ∷ index_in (second hs) ∷ [] ≡ hs
index hs t = two kinds.OwnerOrIndex kinds.Index _ _ hs t (nv_auth_again (first hs)) (index_again (second hs))

pub handles_again : (p : Params) (hs : List ℕ) → AreAdmitted (handle_kinds (params_code p)) hs → handles_of (body_from hs p) ≡ hs
handles_again params.NvUndefineSpace hs t = two kinds.Owner kinds.Index _ _ hs t (owner_again (first hs)) (index_again (second hs))
handles_again (params.NvDefineSpace p) hs t = one kinds.Owner _ hs t (owner_again (first hs))
handles_again params.NvIncrement hs t = index hs t
handles_again (params.PcrEvent event) hs t = register hs t
handles_again params.PcrReset hs t = one kinds.Pcr _ hs t (register_again (first hs))
handles_again (params.Startup kind) hs t = sym t
handles_again (params.NvRead p) hs t = index hs t
handles_again (params.FlushContext handle) hs t = sym t
handles_again params.NvReadPublic hs t = one kinds.Index _ hs t (index_again (first hs))
handles_again (params.StartAuthSession p) hs t =
    two kinds.Null kinds.OwnerOrNull _ _ hs t (null_again (first hs)) (bind_again (second hs))
handles_again (params.PcrRead selected) hs t = sym t
handles_again (params.PcrExtend digests) hs t = register hs t
handles_again _ hs t = policy hs t

pub params_again : (p : Params) (hs : List ℕ) → params_of (body_from hs p) ≡ p
params_again params.NvUndefineSpace hs = refl
params_again _ hs = refl

-- ---- the parameters of each command

few : {A : Type 0} (k : ℕ) (l : Layout A) → k ≤ 1100 → TakesAtMost k l → TakesAtMost 1100 l
few k l le t = at_most_more k 1100 l le t

none : {A : Type 0} (x : A) → TakesAtMost {r = buffer} 1100 (Form.done x)
none x = few 0 (Form.done x) (omega arith) (at_most_done x)

pub of_parameters : (code : CommandCode) → TakesAtMost 1100 (parameters code)
unfolding nv_define_space pcr_event startup nv_read flush_context policy_command_code policy_or start_auth_session
    pcr_read policy_pcr pcr_extend startup_type session_type session encrypted_salt nv_public
of_parameters codes.NvDefineSpace =
    few 114 _ (omega arith)
    (next 50 64 (of_parameter 1) _ _ _ (at_most_sized_bytes digest_bytes)
    (λ auth. only 64 (of_parameter 2) _ _ _ (at_most_sized public_bytes nv_public_area)))
of_parameters codes.PcrEvent = few 1026 _ (omega arith) (only 1026 (of_parameter 1) _ _ _ (at_most_sized_bytes event_bytes))
of_parameters codes.Startup = few 2 _ (omega arith) (only 2 (of_parameter 1) _ _ _ (at_most_number 2 startup_of startup_number rc_value))
of_parameters codes.NvRead =
    few 4 _ (omega arith)
    (next 2 2 (of_parameter 1) _ _ _ (at_most_number 2 _ _ _)
    (λ size. only 2 (of_parameter 2) _ _ _ (at_most_number 2 _ _ _)))
of_parameters codes.FlushContext = few 4 _ (omega arith) (only 4 (of_parameter 1) _ _ _ (at_most_number_in 4 is_session rc_value))
of_parameters codes.PolicyCommandCode = few 4 _ (omega arith) (only 4 (of_parameter 1) _ _ _ (at_most_number 4 _ _ _))
of_parameters codes.PolicyOr =
    few 404 _ (omega arith)
    (only 404 (of_parameter 1) _ _ _ (at_most_counted 2 most_digests 50 digest (at_most_sized_bytes digest_bytes)))
of_parameters codes.StartAuthSession = few 61 _ (omega arith) (
    next 50 11 (of_parameter 1) _ _ _ (at_most_sized_bytes digest_bytes) (λ nonce.
    next 2 9 (of_parameter 2) _ _ _ (at_most_number 2 salt_of salt_size rc_value) (λ salt.
    next 1 8 (of_parameter 3) _ _ _ (at_most_number 1 session_type_of session_type_number rc_value) (λ kind.
    next 6 2 (of_parameter 4) _ _ _ of_sym_def (λ symmetric.
    only 2 (of_parameter 5) _ _ _ of_hash)))))
of_parameters codes.PcrRead = few 22 _ (omega arith) (only 22 (of_parameter 1) _ _ _ (at_most_counted 0 banks 6 selection of_selection))
of_parameters codes.PolicyPcr =
    few 72 _ (omega arith)
    (next 50 22 (of_parameter 1) _ _ _ (at_most_sized_bytes digest_bytes)
    (λ pcr_digest. only 22 (of_parameter 2) _ _ _ (at_most_counted 0 banks 6 selection of_selection)))
of_parameters codes.PcrExtend = few 154 _ (omega arith) (only 154 (of_parameter 1) _ _ _ (at_most_counted 0 banks 50 digest_value of_digest_value))
of_parameters _ = none _

-- ---- the handle of a reply is that which was read, and its body is the command's

-- each value that is read of the layout has the property
abbrev pub Ends : {A : Type 0} → (A → Type 0) → Layout A → Type 0
Ends P (Form.done x) = P x
Ends P (Form.field {B = B} get l f) = (b : B) → Ends P (f b)
Ends P _ = ⊥

pub ends_read : {A : Type 0} (P : A → Type 0) (l : Layout A) (m : ℕ) (h : Here) (x : A × Here) → Ends P l → read m l h ≡ Ok x → P x.0
ends_read P (Form.done a) m h x p e = subst P (ap (λ z. z.0) (ok_is (a, h) x e)) p
ends_read P (Form.field get l f) m h x p e =
    let b = bind_ok (read m l h) (λ y. read m (f y.0) y.1) x e in
    ends_read P (f b.0.0) m b.0.1 x (p b.0.0) b.2
ends_read P (Form.number width meaning number_for fault) m h x p e = absurd p
ends_read P (Form.text n judge text_for) m h x p e = absurd p
ends_read P (Form.area n fault l) m h x p e = absurd p
ends_read P (Form.list most stops l) m h x p e = absurd p
ends_read P (Form.by_left f) m h x p e = absurd p
ends_read P (Form.marked n l) m h x p e = absurd p

abbrev pub AreRead : CommandCode → List ℕ → Type 0
AreRead codes.StartAuthSession hs = (n : ℕ) × (hs ≡ n ∷ []) × (session_in n ≡ n)
AreRead _ hs = hs ≡ []

none_read : (h g : Here) (hs : List ℕ) → (let o : Result (List ℕ × Here) Refusal = Ok ([], h) in o) ≡ Ok (hs, g) → hs ≡ []
none_read h g hs e = sym (ap (λ (p : List ℕ × Here). p.0) (ok_is ([], h) (hs, g) e))

session_read : (h g : Here) (hs : List ℕ) → read 0 session_handle h ≡ Ok (hs, g) → (n : ℕ) × (hs ≡ n ∷ []) × (session_in n ≡ n)
unfolding session_handle session
session_read h g hs e =
    let b = bind_ok (read 0x100 session h) (λ n. ok (n.0 ∷ [], n.1)) (hs, g) e in
    let good : is_session b.0.0 ≡ true = in_set 4 is_session rc_value 0x100 h b.0 b.1 in
    (b.0.0, sym (ap (λ z. z.0) (ok_is (b.0.0 ∷ [], b.0.1) (hs, g) b.2)), rw good refl)

pub are_read : (code : CommandCode) (h g : Here) (hs : List ℕ) → read 0 (reply_handles code) h ≡ Ok (hs, g) → AreRead code hs
are_read codes.StartAuthSession h g hs e = session_read h g hs e
are_read _ h g hs e = none_read h g hs e

-- the body is that of the command, with this handle
abbrev pub IsBodyOf : CommandCode → List ℕ → ReplyBody → Type 0
IsBodyOf code hs body = (code_for_reply body ≡ code) × (reply_handles_of body ≡ hs)

pub bodies : (code : CommandCode) (hs : List ℕ) → AreRead code hs → Ends (IsBodyOf code hs) (reply_parameters code hs)
unfolding pcr_event_reply nv_read_reply nv_read_public_reply start_auth_session_reply pcr_read_reply policy_get_digest_reply
bodies codes.PcrEvent hs are = λ a. (refl, sym are)
bodies codes.NvRead hs are = λ a. (refl, sym are)
bodies codes.NvReadPublic hs are = λ a b. (refl, sym are)
bodies codes.StartAuthSession hs are = λ nonce. (refl, rw (are.1, are.2) refl)
bodies codes.PcrRead hs are = λ a b c. (refl, sym are)
bodies codes.PolicyGetDigest hs are = λ a. (refl, sym are)
bodies _ hs are = (refl, sym are)
