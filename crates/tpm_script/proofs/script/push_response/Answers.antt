use Rattle.std.proofs.Common.{ap, sym, ◌∙◌}
use Rattle.std.proofs.lemmas.List.{append-nil}
use Rattle.tpm_output.specs.Text.{bytes_line}
use Rattle.tpm_script.specs.inner.Progress.{StandsAt}
use Rattle.tpm_script.proofs.script.push_response.Goals as goal

pub returns : goal.returns
unfolding StandsAt
returns c = (
  bytes_line c.as_slice.result.now,
  c.in_ok-push_bytes.ensures,
  λ o h stands. record {
    stands = rw c.nonce.ensures at (c.execute-response.ensures.stands o h stands);
    text = ap bytes_line (c.as_slice.ensures.value ∙ rw c.nonce.ensures at (c.execute-response.ensures.answer o h stands))
        ∙ sym (append-nil _ ∙ append-nil _);
  },
)
