-- What `show --binary` prints of a stream of frames (this profile).
use Rattle.std.specs.Prelude.{◌≡◌, ℕ, ◌+◌, ◌<◌, ◌⊎◌, List, [], ◌++◌, length, map, codes, Option}
use Rattle.std.specs.Prelude.{Some, None}
use Rattle.std.specs.List.{concat}
use Rattle.std.specs.Io.KnownBytes.{Consumes, IsAtEnd}
use Rattle.tpm_stream.specs.Frames.{Frames, IsPart, IsBroken}
use Rattle.tpm_output.specs.declared.status.Status.TheVariants.{Done, Refused}
use Rattle.tpm_output.specs.declared.status.Status.{Status}
use Rattle.tpm_output.specs.Status.{both}
use Rattle.tpm_show.specs.declared.telling.Telling.{Telling}
use Rattle.tpm_show.specs.Pieces.{Piece}
use Rattle.tpm_show.specs.Reports.{IsReportOrNothing, stop_told}
use Rattle.tpm_show.specs.Capture.{CaptureLine, Frame, start, TellsFrom}

-- how a stream goes on behind its last frame: not at all, with less than a frame, or with a size that no frame has
pub data Ending : Type 0 where
  AtEnd : Ending
  Inside : Ending
  BadSize : Ending

abbrev pub IsEnding : List ℕ → Ending → Type 0
IsEnding rest AtEnd = rest ≡ []
IsEnding rest Inside = IsPart rest × (0 < length rest)
IsEnding rest BadSize = IsBroken rest

-- what is told of it, where the next frame has this number, behind so many bytes
abbrev pub ending_told : Ending → (number at : ℕ) → Option (List Piece)
ending_told AtEnd number at = None
ending_told Inside number at = Some (stop_told number (codes "cut short") at)
ending_told BadSize number at = Some (stop_told number (codes "bad size") at)

abbrev pub ending_status : Ending → Status
ending_status AtEnd = Done
ending_status _ = Refused

abbrev pub unmarked_frame : List ℕ → CaptureLine
unmarked_frame bytes = Frame None bytes

-- For these bytes of a stream this is the status and what is printed: its frames are told as those of a capture
-- without marks, and then how it goes on.
pub record TellsStream (how : Telling) (bytes : List ℕ) (status : Status) (text : List ℕ) : Type 0 where
  pub frames : List (List ℕ)
  pub rest : List ℕ
  pub cut : Frames bytes frames rest
  pub ending : Ending
  pub ends : IsEnding rest ending
  pub one : Status
  pub told : List ℕ
  pub tells : TellsFrom (start how) (map unmarked_frame frames) one told
  pub all : status ≡ both one (ending_status ending)
  pub last : List ℕ
  pub report : IsReportOrNothing how.form (ending_told ending (length frames + 1) (length (concat frames))) last
  pub are : text ≡ told ++ last

-- Of these bytes the frames that have come are told, and of the one that has not nothing.
pub record TellsWhole (how : Telling) (bytes text : List ℕ) : Type 0 where
  pub frames : List (List ℕ)
  pub rest : List ℕ
  pub cut : Frames bytes frames rest
  pub part : IsPart rest
  pub status : Status
  pub tells : TellsFrom (start how) (map unmarked_frame frames) status text

-- ---- what is read

-- This holds of the bytes of the input that were read; and it has ended, or this holds whatever comes behind them.
pub record OfRead (old new : Option (List ℕ)) (Holds : List ℕ → Type 0) : Type 0 where
  pub bytes : List ℕ
  pub read : Consumes old new bytes
  pub holds : Holds bytes
  pub whole : IsAtEnd new ⊎ ((more : List ℕ) → Holds (bytes ++ more))
