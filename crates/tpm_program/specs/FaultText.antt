-- What is told of a fault on standard error (this profile).
use Rattle.std.specs.Prelude.{ℕ, List, ◌++◌, codes, chars, encode_utf8, false, if◌then◌else◌}
use Rattle.std.specs.Char.{is_control}
use Rattle.std.specs.Fmt.{digits}
use Rattle.std.specs.List.{flat_map}
use Rattle.std.specs.declared.io.ErrorKind.TheVariants.{NotFound, PermissionDenied, IsADirectory}
use Rattle.std.specs.declared.io.ErrorKind.{ErrorKind}
use Rattle.tpm_output.specs.declared.fault.ToolFault.TheVariants.{Memory, Read, Write, InputTooLong}
use Rattle.tpm_output.specs.declared.fault.ToolFault.{ToolFault}
use Rattle.tpm_program.specs.declared.cause.Cause.TheVariants.{Missing, Denied, Directory, Other}
use Rattle.tpm_program.specs.declared.cause.Cause.{Cause}
use Rattle.tpm_program.specs.declared.fault.Fault.TheVariants.{File, Tool}
use Rattle.tpm_program.specs.declared.fault.Fault.{Fault}

-- the cause by the kind of the error
abbrev pub cause_of : ErrorKind → Cause
cause_of NotFound = Missing
cause_of PermissionDenied = Denied
cause_of IsADirectory = Directory
cause_of _ = Other

abbrev pub cause_text : Cause → List ℕ
cause_text Missing = codes "it is not there"
cause_text Denied = codes "permission is denied"
cause_text Directory = codes "it is a directory"
cause_text Other = codes "reading failed"

abbrev pub tool_text : ToolFault → List ℕ
tool_text Memory = codes "out of memory"
tool_text Read = codes "reading failed"
tool_text (Write failed) = codes "writing failed"
tool_text InputTooLong = codes "input too long"

-- A control character, which a terminal would obey, is told by its number, in hexadecimal.
unfoldable pub shown_character : ℕ → List ℕ
shown_character c = if is_control c then codes "\\u{" ++ (digits 16 false c ++ codes "}") else encode_utf8 c

abbrev pub shown_characters : List ℕ → List ℕ
shown_characters characters = flat_map shown_character characters

-- a path, which comes from outside
unfoldable pub shown_path : List ℕ → List ℕ
shown_path path = shown_characters (chars path)

abbrev pub fault_text : Fault → List ℕ
fault_text (File path cause) = codes "cannot read " ++ (shown_path path.now ++ (codes ": " ++ cause_text cause))
fault_text (Tool fault) = tool_text fault
