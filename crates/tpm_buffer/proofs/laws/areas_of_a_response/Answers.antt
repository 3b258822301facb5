use Rattle.tpm_buffer.proofs.Parted.{has_areas}
use Rattle.tpm_buffer.proofs.laws.areas_of_a_response.Goals as goal

pub returns : goal.returns
returns c = has_areas
