-- A value that all of the bytes spell.
use Rattle.std.specs.Prelude.{◌≡◌, ℕ, ◌<◌, List, length, take, Result, Ok, Err, nat_le, ◌==◌, ◌&&◌, if◌then◌else◌}
use Rattle.tpm_wire.specs.declared.refusal.Refusal.{Refusal}
use Rattle.tpm_wire.specs.ResponseCodes.{rc_size}
use Rattle.tpm_wire.specs.Token.{Here, at_start}
use Rattle.tpm_wire.specs.Reading.{read, ◌>>=◌}
use Rattle.tpm_wire.specs.Buffers.{Layout}

-- the fault of bytes that are left over from here on
abbrev pub left_over : Here → Refusal
left_over h = record { code = rc_size; at = h.at }

-- Nothing is left in the area, or what is left is refused at its first byte.
abbrev pub Ends : Here → Result (Unit {0}) Refusal → Type 0
Ends h (Ok x) = length h.rest ≡ 0
Ends h (Err e) = (0 < length h.rest) × (e ≡ left_over h)

-- The value that was read in the first 4,096 of the bytes, where these are all and end behind it; else bytes are left
-- over.
abbrev pub ended : {A : Type 0} → List ℕ → A × Here → Result A Refusal
ended bytes x = if (length x.1.rest == 0) && nat_le (length bytes) 4096 then Ok x.0 else Err (left_over x.1)

-- What is answered to bytes that are one value and no more. No more than 4,096 of them are looked at: where no value
-- has more, this is what all of them spell, or their first fault.
abbrev pub whole_in : {A : Type 0} → Layout A → List ℕ → Result A Refusal
whole_in l bytes = read 0 l (at_start (take 4096 bytes)) >>= ended bytes
