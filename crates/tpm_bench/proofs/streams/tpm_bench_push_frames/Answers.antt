use Rattle.std.proofs.Common.{ℕ, List, [], sym, subst, ◌∙◌, arith}
use Rattle.tpm_stream.specs.Frames.{IsFrame, HasState}
use Rattle.tpm_stream.proofs.Framed.{short_part}
use Rattle.tpm_stream.proofs.Streamed.{broken_begins}
use Rattle.tpm_bench.proofs.Came.{Came, pushes, frame, over}
use Rattle.tpm_bench.proofs.streams.tpm_bench_push_frames.Goals as goal

pub loop-rest-preserved : goal.loop-rest-preserved
loop-rest-preserved c =
    let p = c.push-taken.ensures in
    let came = pushes c.args.stream.now c.loop-rest.framer c.loop-rest.rest.now c.loop-rest.out c.loop-rest.written
    c.loop-rest.invariant.came c.push-taken.new.self c.split_at.result.0.now c.split_at-in-loop-rest.result.1.now _
    _ c.split_at.ensures.front c.split_at.ensures.front_len c.split_at-in-loop-rest.ensures.back p.within p.held in
    let stream = c.args.stream.now in
    let new = c.push-taken.new.self in
    let rest = c.split_at-in-loop-rest.result.1.now in
    let is : IsFrame new = subst (HasState new) c.in-Ready.is p.answer in
    let written = frame stream new rest c.loop-rest.out c.take_frame-written.new.out c.loop-rest.written came is c.take_frame-written.ensures.bytes in
    record {
      came = subst (λ (f : List ℕ). Came stream f rest c.take_frame-written.new.out c.take_frame-written.result) (sym c.take_frame-written.ensures.next)
          (subst (λ (n : ℕ). Came stream [] rest c.take_frame-written.new.out n) (sym c.take_frame-written.ensures.count) written);
      part = rw c.take_frame-written.ensures.next (short_part [] (omega arith));
      room = c.take_frame-written.ensures.room ∙ c.loop-rest.invariant.room;
    }

pub returns-in-Broken : goal.returns-in-Broken
returns-in-Broken c =
    let p = c.push-taken.ensures in
    let came = pushes c.args.stream.now c.loop-rest.framer c.loop-rest.rest.now c.loop-rest.out c.loop-rest.written
    c.loop-rest.invariant.came c.push-taken.new.self c.split_at.result.0.now c.split_at-in-loop-rest.result.1.now _
    _ c.split_at.ensures.front c.split_at.ensures.front_len c.split_at-in-loop-rest.ensures.back p.within p.held in
    let broken = subst (HasState c.push-taken.new.self) c.in-Broken.is p.answer in
    over c.args.stream.now c.push-taken.new.self c.split_at-in-loop-rest.result.1.now c.loop-rest.out
    c.loop-rest.written came (broken_begins c.push-taken.new.self c.split_at-in-loop-rest.result.1.now broken.0)
