-- The list of all commands: each with its row, and what a command is made of.
use Rattle.std.specs.Prelude.{ℕ, List, [], ◌∷◌, Option, Some, None, if◌then◌else◌}
use Rattle.tpm_types.specs.declared.handle_sets.PcrOrNull.{PcrOrNull}
use Rattle.tpm_types.specs.declared.handle_sets.NvAuthHandle.{NvAuthHandle}
use Rattle.tpm_types.specs.declared.handle_sets.BindHandle.{BindHandle}
use Rattle.tpm_types.specs.Handles.{rh_owner, rh_null, is_pcr, is_nv_index, is_policy}
use Rattle.tpm_types.specs.HandleSets.{pcr_or_null_number, pcr_or_null_of, nv_auth_number, nv_auth_of, bind_number}
use Rattle.tpm_types.specs.HandleSets.{bind_of}
use Rattle.tpm_types.specs.declared.handle_sets.PcrOrNull.TheVariants as pcrs
use Rattle.tpm_types.specs.declared.handle_sets.NvAuthHandle.TheVariants as nv
use Rattle.tpm_types.specs.declared.handle_sets.BindHandle.TheVariants as binds
use Rattle.tpm_types.specs.declared.command_code.CommandCode.{CommandCode}
use Rattle.tpm_commands.specs.declared.command.CommandBody.{CommandBody}
use Rattle.tpm_commands.specs.declared.command.Params.{Params}
use Rattle.tpm_commands.specs.declared.command.ReplyBody.{ReplyBody}
use Rattle.tpm_commands.specs.Row.{Row, first, second}
use Rattle.tpm_commands.specs.Commands.Startup.{startup_row}
use Rattle.tpm_commands.specs.Commands.Session.{start_auth_session_row, policy_restart_row}
use Rattle.tpm_commands.specs.Commands.Pcr.{pcr_event_row, pcr_reset_row, pcr_read_row, pcr_extend_row}
use Rattle.tpm_commands.specs.Commands.Policy.{policy_auth_value_row, policy_command_code_row, policy_or_row}
use Rattle.tpm_commands.specs.Commands.Policy.{policy_pcr_row, policy_get_digest_row}
use Rattle.tpm_commands.specs.Commands.Context.{flush_context_row}
use Rattle.tpm_commands.specs.Commands.Nv.{nv_undefine_space_row, nv_define_space_row, nv_increment_row, nv_read_row}
use Rattle.tpm_commands.specs.Commands.Nv.{nv_read_public_row}
use Rattle.tpm_types.specs.declared.command_code.CommandCode.TheVariants as codes
use Rattle.tpm_commands.specs.declared.command.CommandBody.TheVariants as bodies
use Rattle.tpm_commands.specs.declared.command.Params.TheVariants as params
use Rattle.tpm_commands.specs.declared.command.ReplyBody.TheVariants as replies

abbrev pub row : CommandCode → Row
row codes.NvUndefineSpace = nv_undefine_space_row
row codes.NvDefineSpace = nv_define_space_row
row codes.NvIncrement = nv_increment_row
row codes.PcrEvent = pcr_event_row
row codes.PcrReset = pcr_reset_row
row codes.Startup = startup_row
row codes.NvRead = nv_read_row
row codes.FlushContext = flush_context_row
row codes.NvReadPublic = nv_read_public_row
row codes.PolicyAuthValue = policy_auth_value_row
row codes.PolicyCommandCode = policy_command_code_row
row codes.PolicyOr = policy_or_row
row codes.StartAuthSession = start_auth_session_row
row codes.PcrRead = pcr_read_row
row codes.PolicyPcr = policy_pcr_row
row codes.PolicyRestart = policy_restart_row
row codes.PcrExtend = pcr_extend_row
row codes.PolicyGetDigest = policy_get_digest_row

-- the command that has these parameters
abbrev pub params_code : Params → CommandCode
params_code params.NvUndefineSpace = codes.NvUndefineSpace
params_code (params.NvDefineSpace p) = codes.NvDefineSpace
params_code params.NvIncrement = codes.NvIncrement
params_code (params.PcrEvent event) = codes.PcrEvent
params_code params.PcrReset = codes.PcrReset
params_code (params.Startup kind) = codes.Startup
params_code (params.NvRead p) = codes.NvRead
params_code (params.FlushContext handle) = codes.FlushContext
params_code params.NvReadPublic = codes.NvReadPublic
params_code params.PolicyAuthValue = codes.PolicyAuthValue
params_code (params.PolicyCommandCode code) = codes.PolicyCommandCode
params_code (params.PolicyOr digests) = codes.PolicyOr
params_code (params.StartAuthSession p) = codes.StartAuthSession
params_code (params.PcrRead selected) = codes.PcrRead
params_code (params.PolicyPcr p) = codes.PolicyPcr
params_code params.PolicyRestart = codes.PolicyRestart
params_code (params.PcrExtend digests) = codes.PcrExtend
params_code params.PolicyGetDigest = codes.PolicyGetDigest

-- the command that is answered so
abbrev pub code_for_reply : ReplyBody → CommandCode
code_for_reply replies.NvUndefineSpace = codes.NvUndefineSpace
code_for_reply replies.NvDefineSpace = codes.NvDefineSpace
code_for_reply replies.NvIncrement = codes.NvIncrement
code_for_reply (replies.PcrEvent values) = codes.PcrEvent
code_for_reply replies.PcrReset = codes.PcrReset
code_for_reply replies.Startup = codes.Startup
code_for_reply (replies.NvRead bytes) = codes.NvRead
code_for_reply replies.FlushContext = codes.FlushContext
code_for_reply (replies.NvReadPublic public its_name) = codes.NvReadPublic
code_for_reply replies.PolicyAuthValue = codes.PolicyAuthValue
code_for_reply replies.PolicyCommandCode = codes.PolicyCommandCode
code_for_reply replies.PolicyOr = codes.PolicyOr
code_for_reply (replies.StartAuthSession reply) = codes.StartAuthSession
code_for_reply (replies.PcrRead counter selected values) = codes.PcrRead
code_for_reply replies.PolicyPcr = codes.PolicyPcr
code_for_reply replies.PolicyRestart = codes.PolicyRestart
code_for_reply replies.PcrExtend = codes.PcrExtend
code_for_reply (replies.PolicyGetDigest value) = codes.PolicyGetDigest

-- ---- a command by its handles and its parameters

-- the value, or else this one, which is never met on handles that were read
abbrev pub or_else : {A : Type 0} → Option A → A → A
or_else (Some x) other = x
or_else None other = other

abbrev pub register_in : ℕ → ℕ
register_in n = if is_pcr n then n else 0

abbrev pub index_in : ℕ → ℕ
index_in n = if is_nv_index n then n else 0x01000000

abbrev pub policy_in : ℕ → ℕ
policy_in n = if is_policy n then n else 0x03000000

abbrev pub pcr_or_null_in : ℕ → PcrOrNull
pcr_or_null_in n = or_else (pcr_or_null_of n) pcrs.Null

abbrev pub nv_auth_in : ℕ → NvAuthHandle
nv_auth_in n = or_else (nv_auth_of n) nv.Owner

abbrev pub bind_in : ℕ → BindHandle
bind_in n = or_else (bind_of n) binds.Null

abbrev pub body_from : List ℕ → Params → CommandBody
body_from hs params.NvUndefineSpace = bodies.NvUndefineSpace (index_in (second hs))
body_from hs (params.NvDefineSpace p) = bodies.NvDefineSpace p
body_from hs params.NvIncrement = bodies.NvIncrement (nv_auth_in (first hs)) (index_in (second hs))
body_from hs (params.PcrEvent event) = bodies.PcrEvent (pcr_or_null_in (first hs)) event
body_from hs params.PcrReset = bodies.PcrReset (register_in (first hs))
body_from hs (params.Startup startup_type) = bodies.Startup startup_type
body_from hs (params.NvRead p) = bodies.NvRead (nv_auth_in (first hs)) (index_in (second hs)) p
body_from hs (params.FlushContext session) = bodies.FlushContext session
body_from hs params.NvReadPublic = bodies.NvReadPublic (index_in (first hs))
body_from hs params.PolicyAuthValue = bodies.PolicyAuthValue (policy_in (first hs))
body_from hs (params.PolicyCommandCode code) = bodies.PolicyCommandCode (policy_in (first hs)) code
body_from hs (params.PolicyOr digests) = bodies.PolicyOr (policy_in (first hs)) digests
body_from hs (params.StartAuthSession p) = bodies.StartAuthSession (record { bind = bind_in (second hs); params = p })
body_from hs (params.PcrRead selections) = bodies.PcrRead selections
body_from hs (params.PolicyPcr p) = bodies.PolicyPcr (policy_in (first hs)) p
body_from hs params.PolicyRestart = bodies.PolicyRestart (policy_in (first hs))
body_from hs (params.PcrExtend digests) = bodies.PcrExtend (pcr_or_null_in (first hs)) digests
body_from hs params.PolicyGetDigest = bodies.PolicyGetDigest (policy_in (first hs))

-- ---- the handles and the parameters of a command

abbrev pub params_of : CommandBody → Params
params_of (bodies.NvUndefineSpace index) = params.NvUndefineSpace
params_of (bodies.NvDefineSpace p) = params.NvDefineSpace p
params_of (bodies.NvIncrement by index) = params.NvIncrement
params_of (bodies.PcrEvent register event) = params.PcrEvent event
params_of (bodies.PcrReset register) = params.PcrReset
params_of (bodies.Startup startup_type) = params.Startup startup_type
params_of (bodies.NvRead by index p) = params.NvRead p
params_of (bodies.FlushContext session) = params.FlushContext session
params_of (bodies.NvReadPublic index) = params.NvReadPublic
params_of (bodies.PolicyAuthValue session) = params.PolicyAuthValue
params_of (bodies.PolicyCommandCode session code) = params.PolicyCommandCode code
params_of (bodies.PolicyOr session digests) = params.PolicyOr digests
params_of (bodies.StartAuthSession start) = params.StartAuthSession start.params
params_of (bodies.PcrRead selections) = params.PcrRead selections
params_of (bodies.PolicyPcr session p) = params.PolicyPcr p
params_of (bodies.PolicyRestart session) = params.PolicyRestart
params_of (bodies.PcrExtend register digests) = params.PcrExtend digests
params_of (bodies.PolicyGetDigest session) = params.PolicyGetDigest

abbrev pub code_for : CommandBody → CommandCode
code_for body = params_code (params_of body)

abbrev pub handles_of : CommandBody → List ℕ
handles_of (bodies.NvUndefineSpace index) = rh_owner ∷ index ∷ []
handles_of (bodies.NvDefineSpace p) = rh_owner ∷ []
handles_of (bodies.NvIncrement by index) = nv_auth_number by ∷ index ∷ []
handles_of (bodies.PcrEvent register event) = pcr_or_null_number register ∷ []
handles_of (bodies.PcrReset register) = register ∷ []
handles_of (bodies.Startup startup_type) = []
handles_of (bodies.NvRead by index p) = nv_auth_number by ∷ index ∷ []
handles_of (bodies.FlushContext session) = []
handles_of (bodies.NvReadPublic index) = index ∷ []
handles_of (bodies.PolicyAuthValue session) = session ∷ []
handles_of (bodies.PolicyCommandCode session code) = session ∷ []
handles_of (bodies.PolicyOr session digests) = session ∷ []
handles_of (bodies.StartAuthSession start) = rh_null ∷ bind_number start.bind ∷ []
handles_of (bodies.PcrRead selections) = []
handles_of (bodies.PolicyPcr session p) = session ∷ []
handles_of (bodies.PolicyRestart session) = session ∷ []
handles_of (bodies.PcrExtend register digests) = pcr_or_null_number register ∷ []
handles_of (bodies.PolicyGetDigest session) = session ∷ []
