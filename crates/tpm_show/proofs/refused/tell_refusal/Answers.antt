use Rattle.tpm_show.specs.Refusals.{refusal_told}
use Rattle.tpm_show.proofs.Pieces.{pieces}
use Rattle.tpm_show.proofs.refused.tell_refusal.Goals as goal

pub returns : goal.returns
unfolding refusal_told
returns g c =
    simp pieces (simp (
      c.in_ok-tell_code_in_line.ensures,
      c.in_ok-tell.ensures,
      c.in_ok-tell_code_name.ensures,
      c.in_ok-tell_all.ensures,
      c.verdict.ensures,
      c.verdict_name.ensures,
      pieces,
    ) at c.tell-2.ensures)
