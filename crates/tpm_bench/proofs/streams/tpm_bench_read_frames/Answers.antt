use Rattle.std.proofs.Common.{◌≡◌, ◌+◌, ◌++◌, ℕ, List, [], Some, Ok, length, take, ap, sym, subst, ◌∙◌}
use Rattle.tpm_stream.specs.Reads.{ReadsFrame}
use Rattle.tpm_bench.proofs.Came.{Came, more, frame}
use Rattle.tpm_bench.proofs.streams.tpm_bench_read_frames.Goals as goal

pub loop-frame-preserved : goal.loop-frame-preserved
loop-frame-preserved c =
    let stream = c.args.stream.now in
    let left = c.read_frame.new.source.rest.now in
    let old = c.loop-frame.out in
    let new = c.append-written.new.out in
    let written = c.loop-frame.written in
    let read = subst (λ o. ReadsFrame (Some c.loop-frame.source.rest.now) (Some left) (Ok o)) c.in-Ok-Some.field-0-is c.in-Ok-Some.ensures.frame in
    let same : c.as_slice.result.now ≡ read.0 = c.as_slice.ensures.value ∙ read.2.1 in
    let held = more stream [] c.loop-frame.source.rest.now read.0 left old written c.loop-frame.invariant.came read.1 in
    let bytes : take (written + length read.0) new ≡ take written old ++ read.0 =
    ap (λ (s : List ℕ). take (written + length s) new) (sym same) ∙ c.append-written.ensures.bytes ∙ ap (λ (s : List ℕ). take written old ++ s) same in
    record {
      came = subst (λ (n : ℕ). Came stream [] left new n) (sym (c.append-written.ensures.count ∙ ap (λ (s : List ℕ). written + length s) same))
          (frame stream read.0 left old new written held read.2.0 bytes);
      room = c.append-written.ensures.room ∙ c.loop-frame.invariant.room;
    }
