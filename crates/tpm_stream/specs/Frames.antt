-- Buffers one after the other in a stream (Part 1, "Command/Response Structure": the third to sixth
-- byte of a buffer are the number of its bytes).
use Rattle.std.specs.Prelude.{◌≡◌, ℕ, ◌<◌, ◌≤◌, ◌⊎◌, List, [], ◌++◌, length, take, drop, All}
use Rattle.std.specs.List.{concat}
use Rattle.tpm_wire.specs.declared.refusal.Refusal.{Refusal}
use Rattle.tpm_wire.specs.ResponseCodes.{rc_command_size}
use Rattle.tpm_wire.specs.Token.{number_of}
use Rattle.tpm_stream.specs.declared.framer.FramerState.TheVariants.{More, Ready, Broken}
use Rattle.tpm_stream.specs.declared.framer.FramerState.{FramerState}

-- the number that the third to sixth byte spell
abbrev pub stated : List ℕ → ℕ
stated bytes = number_of (take 4 (drop 2 bytes))

-- A frame has 10 to 4,096 bytes (this profile), and states how many.
pub record IsFrame (bytes : List ℕ) : Type 0 where
  pub least : 10 ≤ length bytes
  pub most : length bytes ≤ 4096
  pub states_it : stated bytes ≡ length bytes

-- no frame begins these bytes
abbrev pub BeginsNoFrame : List ℕ → Type 0
BeginsNoFrame bytes = (frame more : List ℕ) → IsFrame frame → bytes ≡ frame ++ more → ⊥

-- A size has come, and no frame has it.
pub record IsBroken (bytes : List ℕ) : Type 0 where
  pub has_size : 6 ≤ length bytes
  pub outside : (stated bytes < 10) ⊎ (4096 < stated bytes)

-- the refusal of such a size (TPM_RC_COMMAND_SIZE; this profile)
abbrev pub bad_size : Refusal
bad_size = record { code = rc_command_size; at = 2 }

-- More has to come before there is a frame.
pub record IsPart (bytes : List ℕ) : Type 0 where
  pub no_frame : BeginsNoFrame bytes
  pub not_broken : IsBroken bytes → ⊥

-- A stream is these frames, one after the other, and a rest that no frame begins.
pub record Frames (stream : List ℕ) (frames : List (List ℕ)) (rest : List ℕ) : Type 0 where
  pub whole : stream ≡ concat frames ++ rest
  pub each : All IsFrame frames
  pub over : BeginsNoFrame rest

-- ---- what a framer holds

-- The state of these bytes, which begin with no frame but themselves.
abbrev pub HasState : List ℕ → FramerState → Type 0
HasState held More = IsPart held
HasState held Ready = IsFrame held
HasState held (Broken e) = IsBroken held × (e ≡ bad_size)

-- a call of `push`: what the framer held, the piece, what it holds then, how many bytes it took, and its answer
pub record Push : Type 0 where
  pub old : List ℕ
  pub piece : List ℕ
  pub new : List ℕ
  pub taken : ℕ
  pub state : FramerState

-- It took the fewest bytes of the piece after which there is a frame or a bad size, or else all.
pub record Pushes (p : Push) : Type 0 where
  pub within : p.taken ≤ length p.piece
  pub held : p.new ≡ p.old ++ take p.taken p.piece
  pub answer : HasState p.new p.state
  pub fewest : (j : ℕ) → j < p.taken → IsPart (p.old ++ take j p.piece)
  pub all : p.state ≡ More → p.taken ≡ length p.piece

-- What pushes leave: part of a frame, a frame, or a size that has just come and is bad.
abbrev pub IsHeld : List ℕ → Type 0
IsHeld held = IsPart held ⊎ IsFrame held ⊎ (IsBroken held × (length held ≡ 6))

-- A frame was dropped, and anything else stays.
pub record Advances (old new : List ℕ) : Type 0 where
  pub frame : IsFrame old → new ≡ []
  pub other : (IsFrame old → ⊥) → new ≡ old
