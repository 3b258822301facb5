-- A device in memory of C's.
use Rattle.std.specs.Prelude.{ℕ, ◌≤◌, Bool, true, false, List, [], length, nat_le, if◌then◌else◌}
use base.Fraction.{full_share}
use base.Fml.{Fml, ftrue, fex}
use denote.RawPtr.{Ptr, lies_at, room_at}
use Rattle.tpm_types.specs.Limits.{digest_bytes}
use Rattle.tpm_model.specs.Steps.{History, Origin}
use Rattle.tpm_model.specs.Answers.{answer, next}
use Rattle.tpm_device.specs.declared.device.Device.{Device}
use Rattle.tpm_device.specs.contracts.device.Device.{the_row}
use Rattle.tpm_device.specs.Stands.{Stands}
use Rattle.tpm_c.specs.Calls.{Call}
use Rattle.tpm_c.specs.Written.{IsIn}

-- A device that stands at the history lies there.
abbrev pub device_at : Origin → History → Ptr → Fml
device_at o h p = fex ((d : Device) × Stands o h d) (λ d. lies_at the_row full_share p d.0)

-- the owner's value fits
abbrev pub fits : List ℕ → Bool
fits owner = nat_le (length owner) digest_bytes

-- There is room for a device, where one is to be made.
abbrev pub room_if : Bool → Ptr → Fml
room_if true p = room_at the_row p
room_if false p = ftrue

-- Where the owner's value doesn't fit, no room is asked for: so nothing can be written.
abbrev pub room_for : List ℕ → Ptr → Fml
room_for owner p = room_if (fits owner) p

-- A new device lies there, where one was made.
abbrev pub new_if : Bool → Origin → Ptr → Fml
new_if true o p = device_at o [] p
new_if false o p = ftrue

abbrev pub made_at : Origin → Ptr → Fml
made_at o p = new_if (fits o.owner) o p

-- 1 where the owner's value fits, and otherwise 0
abbrev pub whether_fits : List ℕ → ℕ
whether_fits owner = if fits owner then 1 else 0

-- what a device is given: the bytes of a command, and a nonce
pub record Input : Type 0 where
  pub bytes : List ℕ
  pub nonce : List ℕ

-- The history after a buffer: the model's next where there is room for any answer, and otherwise the same.
abbrev pub after : (room : ℕ) → Origin → History → Input → History
after room o h input = if nat_le 4096 room then next o h input.bytes input.nonce else h

-- what is written: the model's answer where there is room for any, and otherwise nothing
abbrev pub written : (room : ℕ) → Origin → History → Input → List ℕ
written room o h input = if nat_le 4096 room then answer o h input.bytes input.nonce else []

-- The answer was written, which has 10 bytes at least; or nothing, where there is not room for any answer.
abbrev pub IsAnswered : Origin → History → Input → Call (List ℕ) → Type 0
IsAnswered o h input call =
    IsIn (written (length call.old) o h input) call.old call.new call.answer
    × (4096 ≤ length call.old → 10 ≤ call.answer)
