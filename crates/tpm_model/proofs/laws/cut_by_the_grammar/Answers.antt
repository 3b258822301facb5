use Rattle.tpm_buffer.specs.Commands.{header, authorization}
use Rattle.tpm_commands.specs.Handles.{handles}
use Rattle.tpm_commands.specs.Parameters.{parameters}
use Rattle.tpm_model.proofs.Cuts.{cut, whole}
use Rattle.tpm_model.proofs.laws.cut_by_the_grammar.Goals as goal

pub returns : goal.returns
returns c = record {
  header = cut header;
  handles = λ code. cut (handles code);
  authorization = λ tag. cut (authorization tag);
  parameters = λ code. whole (parameters code);
}
