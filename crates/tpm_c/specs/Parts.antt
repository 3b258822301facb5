-- Parts of a buffer by their places in it, and its fault.
use Rattle.std.specs.Prelude.{ℕ, List, take, drop}
use Rattle.tpm_wire.specs.declared.refusal.Refusal.{Refusal}
use Rattle.tpm_c.specs.declared.part.TpmPart.{TpmPart}
use Rattle.tpm_c.specs.declared.part.TpmRefusal.{TpmRefusal}

abbrev pub part : (at len : ℕ) → TpmPart
part at len = record { at = at; len = len }

-- the bytes of a part
abbrev pub bytes_in : List ℕ → TpmPart → List ℕ
bytes_in bytes p = take p.len (drop p.at bytes)

-- this holds of each of three sessions, counted from 0, and that besides
abbrev pub OfThree : (ℕ → Type 0) → Type 0 → Type 0
OfThree Holds More = Holds 0 × Holds 1 × Holds 2 × More

abbrev pub refusal_of : TpmRefusal → Refusal
refusal_of r = record { code = r.code; at = r.at }

-- what a call writes to that judges bytes: a view of them, and their refusal
pub record Viewed (View : Type 0) : Type 0 where
  pub view : View
  pub refusal : TpmRefusal
