use Rattle.std.proofs.Common.{ap, arith}
use Rattle.tpm_show.specs.Capture.{CapturePlace, told_in}
use Rattle.tpm_show.specs.inner.Capturing.{place}
use Rattle.tpm_show.proofs.Captures.{behind-most, takes_buffered}
use Rattle.tpm_show.proofs.capture.CaptureLineSink.line.Goals as goal

pub returns : goal.returns
returns c =
    let old = c.args.self.now in
    let line = c.args.line.now in
    let told = rw c.in_ok-line.ensures at c.in_ok-tell.ensures in (
      told.text,
      told.added,
      takes_buffered c.args._number old c.tell.new.self line _ told,
      omega (arith, c.requires.at, ap (λ (p : CapturePlace). p.number) told.place, behind-most (place old) (told_in line)),
      λ e. let z : ⊥ = cc (e) in absurd z,
    )
