-- The places on the way through a command.
use Rattle.std.proofs.Common.{◌≡◌, ℕ, ◌+◌, ◌≤◌, List, length, Ok, ◌∙◌, arith}
use Rattle.std.proofs.lemmas.List.{take_all}
use Rattle.tpm_wire.specs.Token.{Here, at_start}
use Rattle.tpm_wire.specs.Layout.{remaining}
use Rattle.tpm_wire.specs.Reading.{read}
use Rattle.tpm_wire.specs.Buffers.{buffer, Layout, Place}
use Rattle.tpm_wire.proofs.Agreement.{ends_same}
use Rattle.tpm_wire.proofs.Buffers.{buffer_sound}
use Rattle.tpm_buffer.proofs.Places.{raw_is}

-- a place before which, and from which on, there are at most as many bytes as a command has
abbrev pub Fits : Here → Type 0
Fits h = h.at + length h.rest ≤ 4096

pub fits_first : (bytes : List ℕ) (p : Place) → p ≡ record { here = at_start bytes; number = 0 } → length bytes ≤ 4096 → Fits p.here
fits_first bytes p first short = let fits : 0 + length bytes ≤ 4096 = omega (arith, short) in rw first fits

pub fits_behind : {A : Type 0} (m : ℕ) (l : Layout A) (h g : Here) (x : A) → Fits h → read m l h ≡ Ok (x, g) → Fits g
fits_behind m l h g x fits e = omega (arith, fits, ends_same buffer buffer_sound m l h (x, g) e)

-- what is left is all that is there
pub remaining_is : (m : ℕ) (h g : Here) (x : List ℕ) → read {r = buffer} m remaining h ≡ Ok (x, g) → x ≡ h.rest
remaining_is m h g x e = raw_is m (length h.rest) h g x e ∙ take_all (length h.rest) h.rest (omega arith)
