-- The front of a command that is built.
use Rattle.std.specs.Prelude.{◌≡◌, ℕ, List, drop}
use Rattle.tpm_types.specs.declared.command_code.CommandCode.{CommandCode}
use Rattle.tpm_buffer.specs.CommandAreas.{Cut, HasCut}

-- Nothing that stands before the parameters has a fault: the code is this one, and they begin at this place.
abbrev pub HasFront : List ℕ → CommandCode → (at : ℕ) → Type 0
HasFront bytes code at =
    (c : Cut) × HasCut bytes c × (c.header.code ≡ code) × (c.params_at ≡ at) × (c.params ≡ drop at bytes)
