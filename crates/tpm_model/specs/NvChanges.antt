-- What of a command and its answer tells that NV memory was changed (Part 1, "NV Memory").
use Rattle.std.specs.Prelude.{ℕ, Bool, true, false, ◌&&◌, ◌==◌, nat_le, List, length, Result, Ok, Err}
use Rattle.tpm_wire.specs.Token.{Here, at_start}
use Rattle.tpm_types.specs.declared.command_code.CommandCode.{CommandCode}
use Rattle.tpm_commands.specs.declared.command.Header.{Header}
use Rattle.tpm_types.specs.declared.command_code.CommandCode.TheVariants as codes
use Rattle.tpm_buffer.specs.Commands.{header}
use Rattle.tpm_model.specs.Answers.{by_grammar}
use Rattle.tpm_model.specs.Premises.{code_in}

-- the commands that change it where they are done (Part 3, 31.3, 31.4 and 31.8)
abbrev pub writes_nv : CommandCode → Bool
writes_nv codes.NvDefineSpace = true
writes_nv codes.NvUndefineSpace = true
writes_nv codes.NvIncrement = true
writes_nv _ = false

-- A header was read, and it is that of such a command.
abbrev pub names_writer : Result (Header × Here) ℕ → Bool
names_writer (Ok head) = writes_nv head.0.code
names_writer (Err code) = false

-- The response has a header, and its code is 0.
abbrev pub is_success : List ℕ → Bool
is_success response = nat_le 10 (length response) && (code_in response == 0)

-- The command was done, and is one that changes NV memory.
abbrev pub changes_nv : (command response : List ℕ) → Bool
changes_nv command response = is_success response && names_writer (by_grammar header (at_start command))
