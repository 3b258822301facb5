-- What a caller checks in the bytes of a reply.
use Rattle.std.specs.Prelude.{◌≡◌, ℕ, ◌≤◌, Bool, true, false, List, length, Option, Some, None, Ok, Err}
use Rattle.tpm_wire.specs.Path.{Spells}
use Rattle.tpm_wire.specs.Reading.{read_all}
use Rattle.tpm_wire.specs.Spelling.{spelling}
use Rattle.tpm_types.specs.Limits.{digest_bytes}
use Rattle.tpm_types.specs.declared.tpms.AuthReply.{AuthReply}
use Rattle.tpm_types.specs.declared.command_code.CommandCode.{CommandCode}
use Rattle.tpm_types.specs.declared.command_code.CommandCode.TheVariants as codes
use Rattle.tpm_commands.specs.declared.command.ReplyBody.{ReplyBody}
use Rattle.tpm_commands.specs.declared.response.Response.TheVariants as responses
use Rattle.tpm_buffer.specs.Responses.{response, done_with}
use Rattle.tpm_model.specs.Callers.{Waiting, opened_session}
use Rattle.tpm_model.specs.Callers as model
use Rattle.tpm_caller.specs.declared.pending.Checked.{Checked}
use Rattle.tpm_caller.specs.declared.pending.Checked.TheVariants as checks
use Rattle.tpm_caller.specs.declared.waiting.CallerFault.{CallerFault}
use Rattle.tpm_caller.specs.declared.waiting.CallerFault.TheVariants as faults
use Rattle.tpm_caller.specs.Faults.{fault_of, HasFirstFault}
use Rattle.tpm_caller.specs.Sent.{caller_with}

-- what is sent in a session and answered without parameters (Part 3, the response table of each)
abbrev pub has_no_params : CommandCode → Bool
has_no_params codes.NvUndefineSpace = true
has_no_params codes.NvDefineSpace = true
has_no_params codes.NvIncrement = true
has_no_params codes.PcrReset = true
has_no_params codes.PcrExtend = true
has_no_params _ = false

-- The bytes are the spelling of this reply to the command, and spell it.
pub record IsSpelledBy (bytes : List ℕ) (code : CommandCode) (body : ReplyBody) (auths : List AuthReply) : Type 0 where
  pub spells : Spells (response code) (done_with (record { body = body; auths = auths })) bytes
  pub is : bytes ≡ spelling (response code) (done_with (record { body = body; auths = auths }))

-- The bytes are some reply to the command, or this is the first fault of bytes that are none.
abbrev pub IsTold : CommandCode → List ℕ → Option CallerFault → Type 0
IsTold code bytes None = (body : ReplyBody) × (auths : List AuthReply) × IsSpelledBy bytes code body auths
IsTold code bytes (Some (faults.Refused refusal)) = read_all (response code) bytes ≡ Err refusal
IsTold code bytes (Some (faults.Code error)) = read_all (response code) bytes ≡ Ok (responses.Code error)
IsTold code bytes (Some _) = ⊥

-- Where the bytes are a reply, this is its first fault.
abbrev pub HasFault : Waiting → List ℕ → CallerFault → Type 0
HasFault w bytes fault =
    (body : ReplyBody) (auths : List AuthReply) → IsSpelledBy bytes w.code body auths
    → (f : model.CallerFault) × (opened_session w body auths ≡ Err f) × (fault ≡ fault_of f)

-- Where the bytes are a reply, it is opened with this nonceTPM.
abbrev pub OpensWith : Waiting → List ℕ → (nonce : List ℕ) → Type 0
OpensWith w bytes nonce =
    (body : ReplyBody) (auths : List AuthReply) → IsSpelledBy bytes w.code body auths
    → opened_session w body auths
    ≡ Ok (record {
      caller = caller_with w nonce;
      response = done_with (record { body = body; auths = auths });
    })

-- The check of the session of a reply says this.
abbrev pub IsChecked : Waiting → List ℕ → Checked → Type 0
IsChecked w bytes (checks.Nonce nonce) = OpensWith w bytes nonce.now × (length nonce.now ≤ digest_bytes)
IsChecked w bytes (checks.Fault fault) = HasFault w bytes fault
IsChecked w bytes (checks.FirstFault fault) = HasFirstFault w bytes fault
