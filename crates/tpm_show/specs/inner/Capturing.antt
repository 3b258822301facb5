-- How far a capture has been told.
use Rattle.std.specs.Prelude.{◌≡◌, ℕ, ◌+◌, ◌≤◌, false, not, List, fold, length, map, All, Option, Some, None}
use Rattle.std.specs.List.{concat}
use Rattle.std.specs.Io.KnownBytes.{Consumes}
use Rattle.tpm_stream.specs.Frames.{IsFrame}
use Rattle.tpm_output.specs.declared.status.Status.{Status}
use Rattle.tpm_output.specs.LineSinks.{LineStep, Limits}
use Rattle.tpm_output.specs.Status.{both}
use Rattle.tpm_show.specs.declared.telling.Telling.{Telling}
use Rattle.tpm_show.specs.declared.capture.Capture.{Capture}
use Rattle.tpm_show.specs.declared.capture_frames.Awaited.{Awaited}
use Rattle.tpm_show.specs.declared.capture_frames.FrameAt.{FrameAt as RustFrameAt}
use Rattle.tpm_show.specs.declared.capture_lines.CaptureLine.{CaptureLine as RustLine}
use Rattle.tpm_show.specs.Capture.{CaptureLine, CapturePlace, FrameAt, start, line_of, most_line, is_blank, behind}
use Rattle.tpm_show.specs.Capture.{TellsLine, TellsFrom}
use Rattle.tpm_show.specs.Stream.{unmarked_frame}
use Rattle.tpm_show.specs.declared.capture_lines.CaptureLine.TheVariants as rust
use Rattle.tpm_show.specs.Capture as capture

-- what was read of a line
abbrev pub read_as : RustLine → CaptureLine
read_as rust.Nothing = capture.Nothing
read_as (rust.Frame mark bytes) = capture.Frame mark bytes.items
read_as rust.NotHexadecimal = capture.NotHexadecimal
read_as rust.TooLong = capture.TooLong

abbrev pub place : Capture → CapturePlace
place c = record { how = c.how; number = c.number; awaited = c.awaited; passage = c.passage }

abbrev pub frame_as : RustFrameAt → FrameAt
frame_as f = record { bytes = f.bytes.now; awaited = f.awaited; passage = f.passage; fields = f.fields }

-- ---- a line

-- Behind a frame, with the status of it, the next has the next number.
pub record Passes (old : Capture) (awaited : Awaited) (status : Status) (new : Capture) : Type 0 where
  pub place : place new ≡ record (place old) { number = old.number + 1; awaited = awaited }
  pub all : new.status ≡ both old.status status

-- This line was told.
pub record TellsNext (l : CaptureLine) (old new : Capture) (Added : List ℕ → Type 0) : Type 0 where
  pub status : Status
  pub text : List ℕ
  pub tells : TellsLine (place old) l status text
  pub added : Added text
  pub place : place new ≡ behind (place old) l
  pub all : new.status ≡ both old.status status

-- Blanks don't count in a line, and one that is too long is told to be so when it ends.
abbrev pub capture_line : Limits
capture_line = record { counts = λ byte. not (is_blank byte); most = most_line; long_ends = false }

-- The line was told, and whatever it is, the next is told, too.
abbrev pub TellsTo : CaptureLine → LineStep Capture → Option Capture → Type 0
TellsTo l step (Some new) = TellsNext l step.old new (λ text. text ≡ step.text)
TellsTo l step None = ⊥

abbrev pub TellsStep : LineStep Capture → Type 0
TellsStep step = TellsTo (line_of step.line) step step.new

-- ---- frames

-- an input that is read: what was to come of it, what is to come, and how many bytes came between
pub record CountedReading : Type 0 where
  pub old : Option (List ℕ)
  pub new : Option (List ℕ)
  pub count : ℕ

-- The bytes that came are frames that were told.
pub record Streams (how : Telling) (r : CountedReading) (c : Capture) (Added : List ℕ → Type 0) : Type 0 where
  pub frames : List (List ℕ)
  pub text : List ℕ
  pub consumed : Consumes r.old r.new (concat frames)
  pub each : All IsFrame frames
  pub count : r.count ≡ length (concat frames)
  pub tells : TellsFrom (start how) (map unmarked_frame frames) c.status text
  pub place : place c ≡ fold behind (start how) (map unmarked_frame frames)
  pub number : c.number ≡ length frames + 1
  pub fewer : length frames ≤ r.count
  pub added : Added text
