use Rattle.tpm_buffer.specs.Commands.{authorization}
use Rattle.tpm_buffer.proofs.Fits.{fits_behind, remaining_is}
use Rattle.tpm_buffer.proofs.command_areas.Handled.areas_into.Goals as goal

pub invariant_of-areas-2 : goal.invariant_of-areas-2
invariant_of-areas-2 c =
    rw (c.at-areas-inside.ensures, remaining_is _ _ _ _ c.remaining-areas-inside.ensures.reads)
    (fits_behind 0 (authorization c.self.inside.header.tag) _ _ _ c.self.invariant c.in_ok-read_authorization.ensures.reads)
