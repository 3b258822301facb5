-- What each command does, or refuses (Part 3, the detailed actions in the section of each; the order of refusals is
-- this profile's).
use Rattle.std.specs.Prelude.{ℕ, ◌+◌, ◌^◌, Bool, false, not, ◌&&◌, ◌||◌, ◌==◌, nat_lt, nat_le, bytes_eq, List, [], ◌∷◌}
use Rattle.std.specs.Prelude.{length, take, drop, Option, is_some, is_none, Result, Ok, Err, ok_or, if◌then◌else◌}
use Rattle.std.specs.Int.{w64, to_be_bytes}
use Rattle.tpm_wire.specs.Reading.{◌>>=◌}
use Rattle.tpm_wire.specs.ResponseCodes.{rc_attributes, rc_handle, rc_nv_authorization, rc_nv_defined}
use Rattle.tpm_wire.specs.ResponseCodes.{rc_nv_range, rc_nv_space, rc_nv_uninitialized, rc_pcr_changed, rc_reference_h0}
use Rattle.tpm_wire.specs.ResponseCodes.{rc_session_memory, rc_size, rc_value, of_parameter}
use Rattle.tpm_types.specs.declared.constants.StartupType.TheVariants.{Clear, State}
use Rattle.tpm_types.specs.declared.constants.StartupType.{StartupType}
use Rattle.tpm_types.specs.declared.handle_sets.NvAuthHandle.{NvAuthHandle}
use Rattle.tpm_types.specs.declared.tpms.NvPublic.{NvPublic}
use Rattle.tpm_types.specs.Alg.{digest_len}
use Rattle.tpm_types.specs.Tpma.{is_counter, is_undefinable, is_writable, is_readable, owner_writes, owner_reads}
use Rattle.tpm_types.specs.declared.handle_sets.NvAuthHandle.TheVariants as nv
use Rattle.tpm_commands.specs.declared.command.CommandBody.{CommandBody}
use Rattle.tpm_commands.specs.declared.command.StartAuth.{StartAuth}
use Rattle.tpm_commands.specs.declared.command.ReplyBody.{ReplyBody}
use Rattle.tpm_commands.specs.declared.command.CommandBody.TheVariants as bodies
use Rattle.tpm_commands.specs.declared.command.ReplyBody.TheVariants as replies
use Rattle.tpm_hmac.specs.Sessions.{trim}
use Rattle.tpm_pcr.specs.Registers.{event_digests, value_in, composite, values_read, selections_read}
use Rattle.tpm_model.specs.Sessions.{Session, is_trial, handle_for, nonce_from, loaded, free_slot}
use Rattle.tpm_model.specs.Counters.{Counter, counter_in, next_value}
use Rattle.tpm_model.specs.Entities.{nv_name}
use Rattle.tpm_model.specs.Authorization.{refuse, is_empty, differs}
use Rattle.tpm_model.specs.Present.{Present}
use Rattle.tpm_pcr.specs.Answers.{check_extend, check_reset}

-- ---- start and registers

-- There is no saved state (this profile).
abbrev pub check_startup : StartupType → Result (Unit {0}) ℕ
check_startup Clear = Ok tt
check_startup State = Err (rc_value + of_parameter 1)

-- ---- sessions

-- A nonce has 16 bytes at least, and no more than a digest (Part 3, 11.1).
abbrev pub start_session : List (Option Session) → StartAuth → List ℕ → Result ReplyBody ℕ
start_session sessions s nonce = do
  _ ← refuse (nat_lt (length s.params.nonce_caller) 16
      || nat_lt (digest_len s.params.auth_hash) (length s.params.nonce_caller))
      (rc_size + of_parameter 1)
  k ← ok_or (free_slot sessions) rc_session_memory
  Ok (replies.StartAuthSession
      (record { session = handle_for s.params.session_type k; nonce_tpm = nonce_from s nonce }))

abbrev pub check_flush : Option Session → Result (Unit {0}) ℕ
check_flush s = refuse (is_none s) (rc_handle + of_parameter 1)

-- ---- policies

-- the policy session of the command's handle
abbrev pub policy_session : Option Session → Result Session ℕ
policy_session s = ok_or s rc_reference_h0

-- The registers are as they were at an earlier TPM2_PolicyPCR, and have the digest that is given, if one is.
abbrev pub check_policy_pcr : Session → (composite : List ℕ) → (update_counter : ℕ) → (pcr_digest : List ℕ)
    → Result (Unit {0}) ℕ
check_policy_pcr s composite update_counter pcr_digest = if is_trial s.session_type then Ok tt else do
  _ ← refuse (differs s.policy.update_counter update_counter) rc_pcr_changed
  refuse (not (is_empty pcr_digest) && not (bytes_eq pcr_digest composite)) (rc_value + of_parameter 1)

abbrev pub is_listed : List ℕ → List (List ℕ) → Bool
is_listed d [] = false
is_listed d (e ∷ es) = bytes_eq d e || is_listed d es

-- One of the digests is that of the policy so far.
abbrev pub check_policy_or : Session → List (List ℕ) → Result (Unit {0}) ℕ
check_policy_or s digests =
    refuse (not (is_trial s.session_type) && not (is_listed s.policy.digest digests)) (rc_value + of_parameter 1)

-- No other code was set, in a trial either.
abbrev pub check_policy_code : Session → ℕ → Result (Unit {0}) ℕ
check_policy_code s code = refuse (differs s.policy.code code) (rc_value + of_parameter 1)

-- ---- counters

-- what is defined is a counter, with none of the attributes that are left out or not for a caller to set, and there
-- is a way to write it and one to read it
abbrev pub is_definable : ℕ → Bool
is_definable attrs = is_counter attrs && not (is_undefinable attrs) && is_writable attrs && is_readable attrs

-- how many counters a device has room for, and how many bytes each has
abbrev pub most_counters : ℕ
most_counters = 8

abbrev pub counter_size : ℕ
counter_size = 8

abbrev pub check_define : Option Counter → (counters : ℕ) → (auth : List ℕ) → NvPublic → Result (Unit {0}) ℕ
check_define there counters auth public = do
  _ ← refuse (not (is_definable public.attrs)) (rc_attributes + of_parameter 2)
  _ ← refuse (nat_lt (digest_len public.alg) (length (trim auth))) (rc_size + of_parameter 1)
  _ ← refuse (not (is_empty public.policy) && not (length public.policy == digest_len public.alg))
      (rc_size + of_parameter 2)
  _ ← refuse (not (public.data_size == counter_size)) (rc_size + of_parameter 2)
  _ ← refuse (is_some there) rc_nv_defined
  refuse (nat_le most_counters counters) rc_nv_space

-- an index that is not defined has no handle
abbrev pub defined_counter : Option Counter → Result Counter ℕ
defined_counter c = ok_or c rc_handle

-- The owner authorizes where the index lets it, and an index for itself alone.
abbrev pub may : (by : NvAuthHandle) → (owner_may : Bool) → (index : ℕ) → Bool
may nv.Owner owner_may index = owner_may
may (nv.Index other) owner_may index = other == index

-- the value that the increment gives
abbrev pub increment : (greatest : ℕ) → Option Counter → NvAuthHandle → ℕ → Result ℕ ℕ
increment greatest there by index = do
  c ← defined_counter there
  _ ← refuse (not (may by (owner_writes c.public.attrs) index)) rc_nv_authorization
  _ ← refuse (nat_le (2 ^ 64) (next_value greatest c.value)) rc_nv_range
  Ok (next_value greatest c.value)

-- so many bytes of the value, which is spelled with the most significant byte first, from an offset on
abbrev pub read_counter : Option Counter → NvAuthHandle → (index size offset : ℕ) → Result (List ℕ) ℕ
read_counter there by index size offset = do
  c ← defined_counter there
  _ ← refuse (not (may by (owner_reads c.public.attrs) index)) rc_nv_authorization
  v ← ok_or c.value rc_nv_uninitialized
  _ ← refuse (nat_lt counter_size (offset + size)) rc_nv_range
  Ok (take size (drop offset (to_be_bytes w64 v)))

-- ---- the table

-- a check, and then the reply
abbrev pub then_reply : {A : Type 0} → Result A ℕ → ReplyBody → Result ReplyBody ℕ
then_reply check reply = check >>= λ _. Ok reply

-- what a command answers, or the code of its refusal, by the sections of Part 3
abbrev pub action : Present → CommandBody → List ℕ → Result ReplyBody ℕ
-- 9.3, TPM2_Startup
action p (bodies.Startup kind) nonce = then_reply (check_startup kind) replies.Startup
-- 22.2, TPM2_PCR_Extend
action p (bodies.PcrExtend q digests) nonce = then_reply (check_extend q) replies.PcrExtend
-- 22.3, TPM2_PCR_Event
action p (bodies.PcrEvent q event) nonce = then_reply (check_extend q) (replies.PcrEvent (event_digests event))
-- 22.8, TPM2_PCR_Reset
action p (bodies.PcrReset q) nonce = then_reply (check_reset q) replies.PcrReset
-- 22.4, TPM2_PCR_Read
action p (bodies.PcrRead sels) nonce =
    Ok (replies.PcrRead p.registers.update_counter (selections_read sels)
    (values_read (value_in p.registers.banks) sels))
-- 11.1, TPM2_StartAuthSession
action p (bodies.StartAuthSession start) nonce = start_session p.sessions start nonce
-- 28.4, TPM2_FlushContext
action p (bodies.FlushContext handle) nonce = then_reply (check_flush (loaded p.sessions handle)) replies.FlushContext
-- 23.7, TPM2_PolicyPCR
action p (bodies.PolicyPcr handle asked) nonce = do
  s ← policy_session (loaded p.sessions handle)
  then_reply
      (check_policy_pcr s (composite s.hash (value_in p.registers.banks) asked.selections)
      p.registers.update_counter asked.pcr_digest)
      replies.PolicyPcr
-- 23.6, TPM2_PolicyOR
action p (bodies.PolicyOr handle digests) nonce = do
  s ← policy_session (loaded p.sessions handle)
  then_reply (check_policy_or s digests) replies.PolicyOr
-- 23.11, TPM2_PolicyCommandCode
action p (bodies.PolicyCommandCode handle code) nonce = do
  s ← policy_session (loaded p.sessions handle)
  then_reply (check_policy_code s code) replies.PolicyCommandCode
-- 23.17, TPM2_PolicyAuthValue
action p (bodies.PolicyAuthValue handle) nonce =
    then_reply (policy_session (loaded p.sessions handle)) replies.PolicyAuthValue
-- 11.2, TPM2_PolicyRestart
action p (bodies.PolicyRestart handle) nonce =
    then_reply (policy_session (loaded p.sessions handle)) replies.PolicyRestart
-- 23.19, TPM2_PolicyGetDigest
action p (bodies.PolicyGetDigest handle) nonce = do
  s ← policy_session (loaded p.sessions handle)
  Ok (replies.PolicyGetDigest s.policy.digest)
-- 31.3, TPM2_NV_DefineSpace
action p (bodies.NvDefineSpace asked) nonce =
    then_reply
    (check_define (counter_in p.nv.counters asked.public.index) (length p.nv.counters) asked.auth asked.public)
    replies.NvDefineSpace
-- 31.4, TPM2_NV_UndefineSpace
action p (bodies.NvUndefineSpace index) nonce =
    then_reply (defined_counter (counter_in p.nv.counters index)) replies.NvUndefineSpace
-- 31.8, TPM2_NV_Increment
action p (bodies.NvIncrement by index) nonce =
    then_reply (increment p.nv.greatest (counter_in p.nv.counters index) by index) replies.NvIncrement
-- 31.13, TPM2_NV_Read
action p (bodies.NvRead by index asked) nonce = do
  bytes ← read_counter (counter_in p.nv.counters index) by index asked.size asked.offset
  Ok (replies.NvRead bytes)
-- 31.6, TPM2_NV_ReadPublic
action p (bodies.NvReadPublic index) nonce = do
  c ← defined_counter (counter_in p.nv.counters index)
  Ok (replies.NvReadPublic c.public (nv_name c.public))
