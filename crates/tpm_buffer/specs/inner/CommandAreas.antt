-- What the readers of a command's areas hand on.
use Rattle.std.specs.Prelude.{ℕ, List}
use Rattle.tpm_wire.specs.Token.{Here}
use Rattle.tpm_types.specs.declared.tpms.Auth.{Auth}
use Rattle.tpm_commands.specs.declared.command.Header.{Header}
use Rattle.tpm_buffer.specs.Commands.{Checked}
use Rattle.tpm_buffer.specs.CommandAreas.{Cut, checked, params_here}

abbrev pub areas_view : Cut → Checked × Here
areas_view c = (checked c, params_here c)

-- the cut at a place, by what was read before it
abbrev pub cut_of : Header → List ℕ → List Auth → Here → Cut
cut_of h hs auths here = record { header = h; handles = hs; auths = auths; params = here.rest; params_at = here.at }
