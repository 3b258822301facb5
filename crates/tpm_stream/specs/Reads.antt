-- What reading a frame does to the bytes that a source has left, where it tells them, and to its count of failures.
use Rattle.std.specs.Prelude.{◌≡◌, ℕ, ◌<◌, Bool, true, false, List, [], length, Option, Some, None, Result}
use Rattle.std.specs.Prelude.{Ok, Err}
use Rattle.std.specs.Io.KnownBytes.{Consumes, IsAtEnd}
use Rattle.arrayvec.specs.ArrayVec.{ArrayVec}
use Rattle.tpm_wire.specs.Sources.{one_more}
use Rattle.tpm_stream.specs.declared.reader.ReadFault.TheVariants.{Device, EndInside, Broken}
use Rattle.tpm_stream.specs.declared.reader.ReadFault.{ReadFault}
use Rattle.tpm_stream.specs.Frames.{IsFrame, IsPart, IsBroken, bad_size}

-- A read failed where the answer is Device, and nowhere else.
abbrev pub CountsDevice : {X : Type 0} → ℕ → ℕ → Result X ReadFault → Type 0
CountsDevice old new (Ok x) = new ≡ old
CountsDevice old new (Err Device) = new ≡ one_more old
CountsDevice old new (Err EndInside) = new ≡ old
CountsDevice old new (Err (Broken e)) = new ≡ old

-- What is answered after these bytes, with the new ones still to come: a frame, none at the end, a bad size as soon
-- as it is there, or else part of a frame at the end or where a read failed.
abbrev pub IsAnswer : List ℕ → Option (List ℕ) → Result (Option (ArrayVec ℕ)) ReadFault → Type 0
IsAnswer bytes new (Ok (Some frame)) = IsFrame bytes × (frame.items ≡ bytes)
IsAnswer bytes new (Ok None) = (bytes ≡ []) × IsAtEnd new
IsAnswer bytes new (Err Device) = IsPart bytes
IsAnswer bytes new (Err EndInside) = IsPart bytes × (0 < length bytes) × IsAtEnd new
IsAnswer bytes new (Err (Broken e)) = IsBroken bytes × (length bytes ≡ 6) × (e ≡ bad_size)

-- Some bytes were read, and this was answered.
abbrev pub ReadsFrame : Option (List ℕ) → Option (List ℕ) → Result (Option (ArrayVec ℕ)) ReadFault → Type 0
ReadsFrame old new answer = (bytes : List ℕ) × Consumes old new bytes × IsAnswer bytes new answer

-- A frame was read, or none at the end, or else this was answered.
abbrev pub ReadsInto : Option (List ℕ) → Option (List ℕ) → List ℕ → Result Bool ReadFault → Type 0
ReadsInto old new frame (Ok true) = Consumes old new frame × IsFrame frame
ReadsInto old new frame (Ok false) = Consumes old new [] × IsAtEnd new
ReadsInto old new frame (Err fault) = (bytes : List ℕ) × Consumes old new bytes × IsAnswer bytes new (Err fault)

-- ---- how many reads met the end

-- one where there is no frame, or less than one, since the input has ended
abbrev pub ends_for : Result (Option (ArrayVec ℕ)) ReadFault → ℕ
ends_for (Ok None) = 1
ends_for (Err EndInside) = 1
ends_for _ = 0

abbrev pub ends_into : Result Bool ReadFault → ℕ
ends_into (Ok false) = 1
ends_into (Err EndInside) = 1
ends_into _ = 0
