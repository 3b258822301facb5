-- What `build` prints, and what it tells of a part that is refused (this profile).
use Rattle.std.specs.Prelude.{◌≡◌, ◌⊎◌, ℕ, ◌+◌, ◌-◌, ◌<◌, ◌≤◌, ◌==◌, nat_lt, List, [], ◌++◌, length, Option, Some, None}
use Rattle.std.specs.Prelude.{codes, if◌then◌else◌}
use Rattle.std.specs.Fmt.{decimal}
use Rattle.std.specs.Str.{bytes_eq}
use Rattle.tpm_wire.specs.declared.refusal.Refusal.{Refusal}
use Rattle.tpm_wire.specs.ResponseCodes.{rc_command_size}
use Rattle.tpm_wire.specs.Path.{Spells, Fault}
use Rattle.tpm_types.specs.declared.command_code.CommandCode.{CommandCode}
use Rattle.tpm_commands.specs.declared.command.Command.{Command}
use Rattle.tpm_buffer.specs.Commands.{command}
use Rattle.tpm_buffer.specs.Parts.{joined}
use Rattle.tpm_output.specs.declared.status.Status.TheVariants.{Done, Refused}
use Rattle.tpm_output.specs.declared.status.Status.{Status}
use Rattle.tpm_output.specs.Text.{bytes_in, bytes_line, refusal_line, not_hexadecimal_line}
use Rattle.tpm_show.specs.declared.built.Part.TheVariants.{Header, Handles, Sessions, Parameters}
use Rattle.tpm_show.specs.declared.built.Part.{Part}
use Rattle.tpm_show.specs.declared.built.Lengths.{Lengths}
use Rattle.tpm_show.specs.declared.built.Place.{Place}
use Rattle.tpm_names.specs.Codes.{name_of_code}
use Rattle.tpm_show.specs.Headers.{behind_space}

-- a command, and the texts of its handles, its sessions and its parameters
pub record CommandParts : Type 0 where
  pub code : CommandCode
  pub handles : List ℕ
  pub sessions : List ℕ
  pub parameters : List ℕ

-- the bytes of a part: none for `-`
abbrev pub part_of : List ℕ → Option (List ℕ)
part_of text = if bytes_eq text (codes "-") then Some [] else bytes_in text

-- ---- which part a place of the buffer is in

-- how many bytes precede the sessions, whose size stands before them, and the parameters (Part 1, "Command/Response
-- Structure")
abbrev pub sessions_at : Lengths → ℕ
sessions_at l = 14 + l.handles

abbrev pub parameters_at : Lengths → ℕ
parameters_at l = if l.sessions == 0 then 10 + l.handles else sessions_at l + l.sessions

-- a part, and how many bytes of it precede the place
abbrev pub in_part : Part → ℕ → Place
in_part part at = record { part = part; at = at }

-- The size of the sessions counts as their begin.
abbrev pub place_of : Lengths → ℕ → Place
place_of l at =
    if nat_lt at 10 then in_part Header at
    else if nat_lt at (10 + l.handles) then in_part Handles (at - 10)
    else if nat_lt at (parameters_at l) then in_part Sessions (at - sessions_at l)
    else in_part Parameters (at - parameters_at l)

-- ---- what becomes of the parts

-- the buffer of a command; what is refused of it; the first part that is not hexadecimal
pub data Outcome : Type 0 where
  Spelled : (bytes : List ℕ) → Outcome
  RefusedFor : Refusal → Place → Outcome
  NoDigits : Part → Outcome

-- COMMAND_SIZE at the size
abbrev pub too_long : Refusal
too_long = record { code = rc_command_size; at = 2 }

-- The bytes spell a command, and else they have a fault.
abbrev pub OfBytes : Lengths → List ℕ → Outcome → Type 0
OfBytes l bytes (Spelled built) = ((c : Command) × Spells command c bytes) × (built ≡ bytes)
OfBytes l bytes (RefusedFor refusal place) = Fault command bytes refusal × (place ≡ place_of l refusal.at)
OfBytes l bytes (NoDigits part) = ⊥

-- No buffer has more than 4,096 bytes.
abbrev pub OfBuffer : Lengths → List ℕ → Outcome → Type 0
OfBuffer l bytes o =
    ((4096 < length bytes) × (o ≡ RefusedFor too_long (in_part Header 2)))
    ⊎ ((length bytes ≤ 4096) × OfBytes l bytes o)

abbrev pub OfParts : CommandCode → (handles sessions parameters : Option (List ℕ)) → Outcome → Type 0
OfParts code None sessions parameters o = o ≡ NoDigits Handles
OfParts code (Some hs) None parameters o = o ≡ NoDigits Sessions
OfParts code (Some hs) (Some ss) None o = o ≡ NoDigits Parameters
OfParts code (Some hs) (Some ss) (Some ps) o =
    OfBuffer (record { handles = length hs; sessions = length ss }) (joined code hs ss ps) o

abbrev pub Becomes : CommandParts → Outcome → Type 0
Becomes parts o = OfParts parts.code (part_of parts.handles) (part_of parts.sessions) (part_of parts.parameters) o

-- ---- what is printed and told of it

abbrev pub status_of : Outcome → Status
status_of (Spelled bytes) = Done
status_of _ = Refused

abbrev pub text_of : Outcome → List ℕ
text_of (Spelled bytes) = bytes_line bytes
text_of (RefusedFor refusal place) = refusal_line refusal
text_of (NoDigits part) = not_hexadecimal_line

abbrev pub part_name : Part → List ℕ
part_name Header = codes "header"
part_name Handles = codes "handles"
part_name Sessions = codes "sessions"
part_name Parameters = codes "parameters"

-- the part, the place in it, and the name of the code
unfoldable pub refused_in : Place → List ℕ
refused_in place =
    codes "refused in the " ++ (part_name place.part ++ (codes " at " ++ (decimal place.at ++ codes ":")))

abbrev pub refused_remark : Place → (code : ℕ) → List ℕ
refused_remark place code = refused_in place ++ (behind_space (name_of_code code) ++ codes "\n")

unfoldable pub digits_remark : Part → List ℕ
digits_remark part = codes "the " ++ (part_name part ++ codes " are not hexadecimal\n")

-- on standard error
abbrev pub remark_of : Outcome → List ℕ
remark_of (Spelled bytes) = []
remark_of (RefusedFor refusal place) = refused_remark place refusal.code
remark_of (NoDigits part) = digits_remark part

-- For these parts this is the status, and what is printed.
abbrev pub Builds : CommandParts → Status → List ℕ → Type 0
Builds parts status text = (o : Outcome) × Becomes parts o × (status ≡ status_of o) × (text ≡ text_of o)

-- For these parts this is told on standard error.
abbrev pub BuildTells : CommandParts → List ℕ → Type 0
BuildTells parts remark = (o : Outcome) × Becomes parts o × (remark ≡ remark_of o)
