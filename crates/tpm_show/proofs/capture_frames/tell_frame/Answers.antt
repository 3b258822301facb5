use Rattle.std.proofs.Common.{◌++◌, refl}
use Rattle.std.proofs.lemmas.Result.{IfOk-weaker}
use Rattle.tpm_show.specs.Headers.{header_in}
use Rattle.tpm_show.specs.Passages.{passage_told}
use Rattle.tpm_show.specs.Refusals.{head_told}
use Rattle.tpm_show.specs.Capture.{answered_code}
use Rattle.tpm_show.proofs.Pieces.{pieces}
use Rattle.tpm_show.proofs.capture_frames.tell_frame.Goals as goal

pub returns : goal.returns
returns g c =
    let frame = c.args.frame in
    let head = head_told c.args.direction (answered_code frame.awaited) (header_in frame.bytes.now) in
    IfOk-weaker c.tell_rest.result _ _ (λ status rest. (
      head ++ (passage_told frame.passage ++ rest.0),
      (rest.0, rest.1, refl),
      simp pieces (simp (
        c.in_ok-tell_passage.ensures,
        c.in_ok-tell_head.ensures,
        c.answered_code-answered.ensures,
        c.header_in.ensures,
        pieces,
      ) at rest.2),
    )) c.tell_rest.ensures
