-- What holds of each command in the model, a line for each.
use Rattle.std.proofs.Common.{ℕ, ◌+◌, Bool, true, false, List, length, arith, ◌≡◌, Ok, refl, Result, Err, Option, Some}
use Rattle.std.proofs.Common.{None, not}
use Rattle.std.specs.Prelude.{◌==◌, if◌then◌else◌, ◌^◌, ◌&&◌, ◌||◌, ok_or, is_some, nat_lt, nat_le, bytes_eq, take}
use Rattle.std.specs.Prelude.{drop, IfOk}
use Rattle.std.specs.Int.{w64, to_be_bytes}
use Rattle.tpm_wire.specs.Buffers.{Layout}
use Rattle.tpm_wire.specs.ResponseCodes.{rc_value}
use Rattle.tpm_wire.specs.Layout.Form.{done, field}
use Rattle.tpm_wire.specs.Reading.{◌>>=◌}
use Rattle.tpm_types.specs.declared.constants.StartupType.TheVariants.{Clear, State}
use Rattle.tpm_types.specs.declared.constants.StartupType.{StartupType}
use Rattle.tpm_types.specs.declared.handle_sets.PcrOrNull.{PcrOrNull}
use Rattle.tpm_types.specs.declared.handle_sets.NvAuthHandle.{NvAuthHandle}
use Rattle.tpm_types.specs.declared.tpms.NvPublic.{NvPublic}
use Rattle.tpm_types.specs.Alg.{digest_len}
use Rattle.tpm_types.specs.Constants.{startup_type}
use Rattle.tpm_types.specs.Handles.{session, is_session}
use Rattle.tpm_types.specs.Limits.{digest_bytes, banks}
use Rattle.tpm_types.specs.Tpma.{owner_writes, owner_reads}
use Rattle.tpm_types.specs.Tpm2b.{digest}
use Rattle.tpm_types.specs.Tpml.{most_digests}
use Rattle.tpm_types.specs.Tpmt.{digest_value}
use Rattle.tpm_types.specs.declared.handle_sets.PcrOrNull.TheVariants as registers
use Rattle.tpm_types.specs.declared.command_code.CommandCode.{CommandCode}
use Rattle.tpm_commands.specs.declared.command.CommandBody.{CommandBody}
use Rattle.tpm_commands.specs.declared.command.StartAuth.{StartAuth}
use Rattle.tpm_commands.specs.declared.command.ReplyBody.{ReplyBody}
use Rattle.tpm_commands.specs.Parameters.{parameters, params_code}
use Rattle.tpm_commands.specs.Commands.Nv.{nv_define_space, nv_read}
use Rattle.tpm_commands.specs.Commands.Startup.{startup}
use Rattle.tpm_commands.specs.Commands.Context.{flush_context}
use Rattle.tpm_commands.specs.Commands.Policy.{policy_command_code, policy_or, policy_pcr}
use Rattle.tpm_commands.specs.Commands.Session.{start_auth_session}
use Rattle.tpm_commands.specs.Commands.Pcr.{pcr_read, pcr_extend, pcr_event}
use Rattle.tpm_commands.specs.Events.{event_bytes}
use Rattle.tpm_commands.specs.Replies.{code_for_reply}
use Rattle.tpm_types.specs.declared.command_code.CommandCode.TheVariants as codes
use Rattle.tpm_commands.specs.declared.command.CommandBody.TheVariants as bodies
use Rattle.tpm_buffer.specs.Commands.{code_for}
use Rattle.tpm_hmac.specs.Sessions.{trim}
use Rattle.tpm_model.specs.Present.{Present}
use Rattle.tpm_model.specs.Authorization.{refuse, is_empty, differs}
use Rattle.tpm_model.specs.Sessions.{Session, is_trial, loaded, free_slot}
use Rattle.tpm_model.specs.Counters.{Counter, counter_in, next_value}
use Rattle.tpm_model.specs.Actions.{check_startup, start_session, check_policy_pcr, is_definable}
use Rattle.tpm_pcr.specs.Answers.{check_extend}
use Rattle.tpm_model.specs.Actions.{most_counters, counter_size, check_define, defined_counter, may, increment}
use Rattle.tpm_model.specs.Actions.{read_counter, then_reply, action, policy_session}
use Rattle.tpm_model.proofs.Nonzero.{IsCoded, coded_in, coded_number, coded_sized_bytes, coded_counted, IsAnswered}
use Rattle.tpm_model.proofs.Coded.{coded_selections, coded_digest_value, coded_public, coded_start}

-- ---- its parameters are refused with codes

pub coded_parameters : (code : CommandCode) → IsCoded (parameters code)
unfolding nv_define_space startup startup_type nv_read flush_context session policy_command_code policy_or pcr_read policy_pcr pcr_extend pcr_event
coded_parameters codes.NvDefineSpace = ((omega arith, coded_sized_bytes digest_bytes), λ auth. ((omega arith, coded_public), λ public. tt))
coded_parameters codes.Startup = ((omega arith, coded_number _ rc_value (omega arith, omega arith)), λ kind. tt)
coded_parameters codes.NvRead = ((omega arith, λ left n. tt), λ size. ((omega arith, λ left n. tt), λ offset. tt))
coded_parameters codes.FlushContext = ((omega arith, coded_in 4 is_session rc_value (omega arith, omega arith)), λ handle. tt)
coded_parameters codes.PolicyCommandCode = ((omega arith, λ left n. tt), λ code. tt)
coded_parameters codes.PolicyOr = ((omega arith, coded_counted 2 most_digests digest (coded_sized_bytes digest_bytes)), λ digests. tt)
coded_parameters codes.StartAuthSession = coded_start
coded_parameters codes.PcrRead = ((omega arith, coded_selections), λ selected. tt)
coded_parameters codes.PolicyPcr = ((omega arith, coded_sized_bytes digest_bytes), λ d. ((omega arith, coded_selections), λ selected. tt))
coded_parameters codes.PcrExtend = ((omega arith, coded_counted 0 banks digest_value coded_digest_value), λ digests. tt)
coded_parameters codes.PcrEvent = ((omega arith, coded_sized_bytes event_bytes), λ event. tt)
coded_parameters codes.NvUndefineSpace = tt
coded_parameters _ = tt

-- ---- its parameters are its own

-- what a layout ends with
unfoldable pub Ends : {A : Type 0} → (A → Type 0) → Layout A → Type 0
Ends P (done x) = P x
Ends P (field get l f) = (y : _) → Ends P (f y)
Ends P _ = ⊥

pub own_params : (code : CommandCode) → Ends (λ p. params_code p ≡ code) (parameters code)
unfolding Ends nv_define_space startup nv_read flush_context policy_command_code policy_or start_auth_session pcr_read policy_pcr pcr_extend pcr_event
own_params codes.NvDefineSpace = λ auth public. refl
own_params codes.Startup = λ kind. refl
own_params codes.NvRead = λ size offset. refl
own_params codes.FlushContext = λ handle. refl
own_params codes.PolicyCommandCode = λ code. refl
own_params codes.PolicyOr = λ digests. refl
own_params codes.StartAuthSession = λ nonce salt kind symmetric alg. refl
own_params codes.PcrRead = λ selected. refl
own_params codes.PolicyPcr = λ d selected. refl
own_params codes.PcrExtend = λ digests. refl
own_params codes.PcrEvent = λ event. refl
own_params _ = refl

-- ---- its action gives its own reply, or a code

-- What is refused is refused with a code.
pub data IfErr {A : Type 0} : Result A ℕ → Type 0 where
  not_refused : {x : A} → IfErr (Ok x)
  with_code : {n : ℕ} → IsAnswered n → IfErr (Err n)

pub its_code : {A : Type 0} {n : ℕ} → IfErr {A = A} (Err n) → IsAnswered n
its_code (with_code c) = c

pub next_too : {A B : Type 0} (r : Result A ℕ) (f : A → Result B ℕ) → IfErr r → ((x : A) → IfErr (f x)) → IfErr (r >>= f)
next_too (Ok x) f c d = d x
next_too (Err n) f c d = with_code (its_code c)

-- the same, where it is known what came before
pub afterwards : {A B : Type 0} (r : Result A ℕ) (f : A → Result B ℕ) → IfErr r → ((x : A) → r ≡ Ok x → IfErr (f x)) → IfErr (r >>= f)
afterwards (Ok x) f c d = d x refl
afterwards (Err n) f c d = with_code (its_code c)

pub tested : (b : Bool) (n : ℕ) → IsAnswered n → IfErr (refuse b n)
tested true n c = with_code c
tested false n c = not_refused

pub test_first : {B : Type 0} (b : Bool) (n : ℕ) (f : Unit {0} → Result B ℕ) → IsAnswered n → ((x : Unit {0}) → IfErr (f x)) → IfErr (refuse b n >>= f)
test_first b n f c d = next_too (refuse b n) f (tested b n c) d

pub looked_up : {A : Type 0} (o : Option A) (n : ℕ) → IsAnswered n → IfErr (ok_or o n)
looked_up None n c = with_code c
looked_up (Some x) n c = not_refused

pub one_of : {A : Type 0} (b : Bool) (x y : Result A ℕ) → IfErr x → IfErr y → IfErr (if b then x else y)
one_of true x y c d = c
one_of false x y c d = d

-- what an action gives: the reply of its command, or a code
pub data Gives (body : CommandBody) : Result ReplyBody ℕ → Type 0 where
  answers : {reply : ReplyBody} → code_for body ≡ code_for_reply reply → Gives body (Ok reply)
  refuses : {n : ℕ} → IsAnswered n → Gives body (Err n)

behind : {A : Type 0} (body : CommandBody) (r : Result A ℕ) (f : A → Result ReplyBody ℕ) → IfErr r → ((x : A) → Gives body (f x)) → Gives body (r >>= f)
behind body (Ok x) f c d = d x
behind body (Err n) f c d = refuses (its_code c)

replied : {A : Type 0} (body : CommandBody) (r : Result A ℕ) (reply : ReplyBody) → IfErr r → code_for body ≡ code_for_reply reply
    → Gives body (then_reply r reply)
replied body r reply c own = behind body r (λ _. Ok reply) c (λ _. answers own)

startup_checked : (kind : StartupType) → IfErr (check_startup kind)
startup_checked Clear = not_refused
startup_checked State = with_code (omega arith, omega arith)

extend_checked : (q : PcrOrNull) → IfErr (check_extend q)
extend_checked (registers.Pcr q) = tested _ _ (omega arith, omega arith)
extend_checked registers.Null = not_refused

policy_pcr_checked : (s : Session) (composite : List ℕ) (n : ℕ) (d : List ℕ) → IfErr (check_policy_pcr s composite n d)
policy_pcr_checked s composite n d = one_of (is_trial s.session_type) _ _ not_refused
    (test_first (differs s.policy.update_counter n) 0x128 _ (omega arith, omega arith)
    (λ _. tested (not (is_empty d) && not (bytes_eq d composite)) 0x1C4 (omega arith, omega arith)))

define_checked : (there : Option Counter) (n : ℕ) (auth : List ℕ) (public : NvPublic) → IfErr (check_define there n auth public)
define_checked there n auth public =
    test_first (not (is_definable public.attrs)) 0x2C2 _ (omega arith, omega arith)
    (λ _.
    test_first (nat_lt (digest_len public.alg) (length (trim auth))) 0x1D5 _ (omega arith, omega arith)
    (λ _.
    test_first (not (is_empty public.policy) && not (length public.policy == digest_len public.alg)) 0x2D5 _ (omega arith, omega arith)
    (λ _.
    test_first (not (public.data_size == counter_size)) 0x2D5 _ (omega arith, omega arith)
    (λ _.
    test_first (is_some there) 0x14C _ (omega arith, omega arith)
    (λ _. tested (nat_le most_counters n) 0x14B (omega arith, omega arith))))))

increment_checked : (most : ℕ) (there : Option Counter) (by : NvAuthHandle) (i : ℕ) → IfErr (increment most there by i)
increment_checked most there by i = next_too (defined_counter there) _ (looked_up there _ (omega arith, omega arith)) (λ c.
    test_first (not (may by (owner_writes c.public.attrs) i)) 0x149 _ (omega arith, omega arith)
    (λ _. test_first (nat_le (2 ^ 64) (next_value most c.value)) 0x146 _ (omega arith, omega arith) (λ _. not_refused {x = next_value most c.value})))

read_checked : (there : Option Counter) (by : NvAuthHandle) (i size offset : ℕ) → IfErr (read_counter there by i size offset)
read_checked there by i size offset = next_too (defined_counter there) _ (looked_up there _ (omega arith, omega arith)) (λ c.
    test_first (not (may by (owner_reads c.public.attrs) i)) 0x149 _ (omega arith, omega arith)
    (λ _. next_too (ok_or c.value 0x14A) _ (looked_up c.value 0x14A (omega arith, omega arith)) (λ v.
    test_first (nat_lt counter_size (offset + size)) 0x146 _ (omega arith, omega arith) (λ _. not_refused {x = take size (drop offset (to_be_bytes w64 v))}))))

session_started : (sessions : List (Option Session)) (s : StartAuth) (n : List ℕ) → Gives (bodies.StartAuthSession s) (start_session sessions s n)
session_started sessions s n =
    behind (bodies.StartAuthSession s)
    (refuse (nat_lt (length s.params.nonce_caller) 16 || nat_lt (digest_len s.params.auth_hash) (length s.params.nonce_caller)) 0x1D5) _
    (tested _ _ (omega arith, omega arith)) (λ _.
    behind (bodies.StartAuthSession s) (ok_or (free_slot sessions) 0x903) _ (looked_up (free_slot sessions) 0x903 (omega arith, omega arith))
    (λ k. answers refl))

in_policy : (body : CommandBody) (p : Present) (handle : ℕ) (f : Session → Result ReplyBody ℕ) → ((s : Session) → Gives body (f s))
    → Gives body (policy_session (loaded p.sessions handle) >>= f)
in_policy body p handle f d = behind body (policy_session (loaded p.sessions handle)) f (looked_up (loaded p.sessions handle) _ (omega arith, omega arith)) d

pub gives : (p : Present) (body : CommandBody) (n : List ℕ) → Gives body (action p body n)
gives p (bodies.Startup kind) n = replied _ _ _ (startup_checked kind) refl
gives p (bodies.PcrExtend q digests) n = replied _ _ _ (extend_checked q) refl
gives p (bodies.PcrEvent q event) n = replied _ _ _ (extend_checked q) refl
gives p (bodies.PcrReset q) n = replied _ _ _ (tested _ _ (omega arith, omega arith)) refl
gives p (bodies.PcrRead sels) n = answers refl
gives p (bodies.StartAuthSession start) n = session_started p.sessions start n
gives p (bodies.FlushContext handle) n = replied _ _ _ (tested _ _ (omega arith, omega arith)) refl
gives p (bodies.PolicyPcr handle asked) n = in_policy _ p handle _ (λ s. replied _ _ _ (policy_pcr_checked s _ _ asked.pcr_digest) refl)
gives p (bodies.PolicyOr handle digests) n = in_policy _ p handle _ (λ s. replied _ _ _ (tested _ _ (omega arith, omega arith)) refl)
gives p (bodies.PolicyCommandCode handle code) n = in_policy _ p handle _ (λ s. replied _ _ _ (tested _ _ (omega arith, omega arith)) refl)
gives p (bodies.PolicyAuthValue handle) n = replied _ _ _ (looked_up (loaded p.sessions handle) _ (omega arith, omega arith)) refl
gives p (bodies.PolicyRestart handle) n = replied _ _ _ (looked_up (loaded p.sessions handle) _ (omega arith, omega arith)) refl
gives p (bodies.PolicyGetDigest handle) n = in_policy _ p handle _ (λ s. answers refl)
gives p (bodies.NvDefineSpace asked) n =
    replied _ _ _ (define_checked (counter_in p.nv.counters asked.public.index) (length p.nv.counters) asked.auth asked.public) refl
gives p (bodies.NvUndefineSpace index) n = replied _ _ _ (looked_up (counter_in p.nv.counters index) _ (omega arith, omega arith)) refl
gives p (bodies.NvIncrement by index) n = replied _ _ _ (increment_checked p.nv.greatest (counter_in p.nv.counters index) by index) refl
gives p (bodies.NvRead by index asked) n =
    behind _ (read_counter (counter_in p.nv.counters index) by index asked.size asked.offset) _
    (read_checked (counter_in p.nv.counters index) by index asked.size asked.offset)
    (λ _. answers refl)
gives p (bodies.NvReadPublic index) n =
    behind _ (defined_counter (counter_in p.nv.counters index)) _ (looked_up (counter_in p.nv.counters index) _ (omega arith, omega arith)) (λ _. answers refl)

-- What is not done is refused with a code.
pub acted : (p : Present) (body : CommandBody) (n : List ℕ) → IfErr (action p body n)
acted p body n = coded (gives p body n)
  where
    coded : {body : CommandBody} {r : Result ReplyBody ℕ} → Gives body r → IfErr r
    coded (answers own) = not_refused
    coded (refuses c) = with_code c

-- What is done is answered with the command's own reply.
pub own_reply : (p : Present) (body : CommandBody) (n : List ℕ) → IfOk (action p body n) (λ reply. code_for body ≡ code_for_reply reply)
own_reply p body n = own (gives p body n)
  where
    own : {body : CommandBody} {r : Result ReplyBody ℕ} → Gives body r → IfOk r (λ reply. code_for body ≡ code_for_reply reply)
    own (answers is) = is
    own (refuses c) = tt
