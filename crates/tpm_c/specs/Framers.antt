-- A framer in memory of C's.
use Rattle.std.specs.Prelude.{◌≡◌, ℕ, ◌≤◌, ◌⊎◌, List, length}
use base.Fraction.{full_share}
use base.Fml.{Fml, fex}
use denote.RawPtr.{Ptr, lies_at}
use Rattle.tpm_stream.specs.Frames.{IsFrame, Pushes, Advances}
use Rattle.tpm_stream.specs.declared.framer.FramerState.TheVariants.{More, Ready, Broken}
use Rattle.tpm_stream.specs.declared.framer.FramerState.{FramerState}
use Rattle.tpm_stream.specs.contracts.framer.Framer.{the_row}
use Rattle.tpm_c.specs.Written.{IsIn}

-- the numbers of what a framer holds
abbrev pub status_number : FramerState → ℕ
status_number More = 0
status_number Ready = 1
status_number (Broken e) = 2

-- A framer that holds these bytes lies there.
abbrev pub framer_at : List ℕ → Ptr → Fml
framer_at held p = lies_at the_row full_share p held

-- one whose frame, if it held one, was dropped
abbrev pub next_at : List ℕ → Ptr → Fml
next_at held p = fex ((new : List ℕ) × Advances held new) (λ x. framer_at x.0 p)

-- a piece, how many of its bytes were taken, and the status then
pub record PushTold : Type 0 where
  pub piece : List ℕ
  pub taken : ℕ
  pub status : ℕ

-- one that took so many bytes of a piece
abbrev pub pushed_at : List ℕ → PushTold → Ptr → Fml
pushed_at held push p = fex ((new : List ℕ) × (s : FramerState)
    × Pushes (record { old = held; piece = push.piece; new = new; taken = push.taken; state = s })
    × (push.status ≡ status_number s)) (λ x. framer_at x.0 p)

-- A frame is held, and there is room for it.
pub record HasRoom (held out : List ℕ) : Type 0 where
  pub frame : IsFrame held
  pub room : length held ≤ length out

-- The frame that is held was written to the beginning of the room, or nothing was.
abbrev pub FrameIn : List ℕ → List ℕ → List ℕ → ℕ → Type 0
FrameIn held old new count =
    (HasRoom held old × IsIn held old new count)
    ⊎ ((HasRoom held old → ⊥) × (new ≡ old) × (count ≡ 0))
