use Rattle.std.proofs.Common.{◌≡◌, ◌+◌, ◌++◌, ℕ, List, [], Bool, Some, Ok, length, take, ap, sym, subst, ◌∙◌}
use Rattle.tpm_stream.specs.Reads.{ReadsInto}
use Rattle.tpm_bench.proofs.Came.{Came, more, frame}
use Rattle.tpm_bench.proofs.streams.tpm_bench_read_frames_into.Goals as goal

pub loop-out-preserved : goal.loop-out-preserved
loop-out-preserved c =
    let stream = c.args.stream.now in
    let left = c.read_frame_into.new.source.rest.now in
    let read = c.read_frame_into.new.frame.items in
    let old = c.loop-out.out in
    let new = c.append-written.new.out in
    let written = c.loop-out.written in
    let is = subst (λ (b : Bool). ReadsInto (Some c.loop-out.source.rest.now) (Some left) read (Ok b)) c.in-Ok-true.field-0-test c.in-Ok-true.ensures.frame in
    let same : c.as_slice.result.now ≡ read = c.as_slice.ensures.value in
    let held = more stream [] c.loop-out.source.rest.now read left old written c.loop-out.invariant.came is.0 in
    let bytes : take (written + length read) new ≡ take written old ++ read =
    ap (λ (s : List ℕ). take (written + length s) new) (sym same) ∙ c.append-written.ensures.bytes ∙ ap (λ (s : List ℕ). take written old ++ s) same in
    record {
      came = subst (λ (n : ℕ). Came stream [] left new n) (sym (c.append-written.ensures.count ∙ ap (λ (s : List ℕ). written + length s) same))
          (frame stream read left old new written held is.1 bytes);
      room = c.append-written.ensures.room ∙ c.loop-out.invariant.room;
    }
