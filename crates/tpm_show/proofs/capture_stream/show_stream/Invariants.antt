use Rattle.std.proofs.Common.{◌+◌, ◌-◌}
use Rattle.std.specs.Io.KnownBytes.{Appends}
use Rattle.tpm_show.specs.Capture.{most_bytes}
use Rattle.tpm_show.specs.inner.Capturing.{Streams}
use Rattle.tpm_show.proofs.Streams.{StreamGoesOn}
use Rattle.tpm_show.proofs.capture_stream.show_stream.Given as goal

abbrev pub invariant-loop-out : goal.invariant-loop-out
invariant-loop-out g l =
    StreamGoesOn (Streams l.fn.how (record { old = g.R.Source.coming l.fn.input; new = g.R.Source.coming l.input; count = l.read }) l.capture
    (Appends (g.W.Write.contents l.fn.out) (g.W.Write.contents l.out))) l.read (g.R.Source.failed l.input) (g.R.Source.failed l.fn.input)

abbrev pub decreases-loop-out : goal.decreases-loop-out
decreases-loop-out g l = most_bytes + 1 - l.read
