use Rattle.std.proofs.Common.{ap, ◌∙◌, take}
use Rattle.tpm_model.specs.Answers.{next}
use Rattle.tpm_bench.proofs.device.answer_once.Goals as goal

pub returns-clause-answer : goal.returns-clause-answer
returns-clause-answer c o h at = (
  c.args.nonce.now,
  ap (λ n. take n c.append.new.out) c.append.ensures.count
      ∙ c.append.ensures.bytes ∙ c.as_slice.ensures.value ∙ c.execute_into.ensures.answer o h at,
)

pub returns-clause-stands : goal.returns-clause-stands
returns-clause-stands c o h at = (next o h c.args.bytes.now c.args.nonce.now, c.execute_into.ensures.stands o h at)
