use Rattle.std.proofs.Common.{rules}
use Rattle.tpm_wire.specs.Structures.{sized_bytes, sized, counted}
use Rattle.tpm_types.specs.Alg.{hash}
use Rattle.tpm_types.specs.Constants.{startup_type, session_type, key_bits}
use Rattle.tpm_types.specs.Handles.{session, auth_session, nv_index}
use Rattle.tpm_types.specs.Tpma.{session_attrs, nv_attrs}
use Rattle.tpm_types.specs.Tpm2b.{encrypted_salt}
use Rattle.tpm_types.specs.Tpms.{selection, auth_command, auth_response, nv_public_area, nv_public}
use Rattle.tpm_types.specs.Tpmt.{digest_value, algorithm, mode, sym_def}
use Rattle.tpm_types.specs.CommandCodes.{command_code}
use Rattle.tpm_commands.specs.Commands.Nv.{nv_define_space, nv_read, nv_read_reply, nv_read_public_reply}
use Rattle.tpm_commands.specs.Commands.Startup.{startup}
use Rattle.tpm_commands.specs.Commands.Context.{flush_context}
use Rattle.tpm_commands.specs.Commands.Policy.{policy_command_code, policy_or, policy_pcr, policy_get_digest_reply}
use Rattle.tpm_commands.specs.Commands.Session.{start_auth_session, session_handle, start_auth_session_reply}
use Rattle.tpm_commands.specs.Commands.Pcr.{pcr_read, pcr_extend, pcr_event, pcr_read_reply}
use Rattle.tpm_buffer.specs.Commands.{tag, command_size, header, sessions, authorization_size, authorization}
use Rattle.tpm_buffer.specs.Responses.{response_tag, response_front, response_code, further_sessions, reply_sessions}
use Rattle.tpm_buffer.specs.Responses.{parameter_size, with_sessions, without_sessions, response}
use Rattle.tpm_pcr.specs.Registers.{banks_of}
use Rattle.tpm_model.proofs.laws.worked_examples.Goals as goal

pub returns : goal.returns
unfolding sized_bytes sized counted hash startup_type session_type session auth_session nv_index session_attrs nv_attrs encrypted_salt digest_value selection
    auth_command auth_response nv_public_area nv_public algorithm key_bits mode sym_def command_code nv_define_space startup nv_read flush_context
    policy_command_code policy_or start_auth_session pcr_read policy_pcr pcr_extend pcr_event tag command_size header sessions authorization_size authorization
    session_handle nv_read_reply nv_read_public_reply start_auth_session_reply pcr_read_reply policy_get_digest_reply response_tag response_front response_code
    further_sessions reply_sessions parameter_size with_sessions without_sessions response banks_of
returns c = search rules
