use Rattle.tpm_script.specs.MemoryText.{attributes_text}
use Rattle.tpm_output.proofs.Padded.{padded_integral-zeros}
use Rattle.tpm_script.proofs.memory_text.push_attributes.Goals as goal

pub returns : goal.returns
unfolding attributes_text
returns c =
    simp (c.in_radix.ensures, c.laid_out.ensures, padded_integral-zeros) at c.write.ensures.bytes
