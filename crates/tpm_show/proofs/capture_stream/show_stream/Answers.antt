use Rattle.std.proofs.Common.{◌++◌, refl, ◌∙◌, arith, length-append}
use Rattle.std.proofs.lemmas.Result.{IfOk-weaker}
use Rattle.std.specs.List.{concat}
use Rattle.std.specs.Io.KnownBytes.{Appends}
use Rattle.tpm_stream.proofs.Filled.{consumes_both, consumes_none}
use Rattle.tpm_output.proofs.Joins.{joins_appends}
use Rattle.tpm_show.proofs.Streams.{appends_nothing, streams_none, streams_more, stream_ends, stream_cut, stream_breaks}
use Rattle.tpm_show.proofs.capture_stream.show_stream.Goals as goal

pub loop-out-init : goal.loop-out-init
loop-out-init g c =
    let contents = g.W.Write.contents in
    let coming = g.R.Source.coming in
    record {
      told =
          streams_none c.args.how (coming c.args.input.now) c.new-capture.result (Appends (contents c.args.out.now) (contents c.args.out.now))
          (consumes_none (coming c.args.input.now))
          (appends_nothing (contents c.args.out.now)) c.new-capture.ensures.place c.new-capture.ensures.status;
      bound = omega arith;
      failures = refl;
    }

pub returns-in-Ok-false-clause-ok : goal.returns-in-Ok-false-clause-ok
returns-in-Ok-false-clause-ok g c =
    let contents = g.W.Write.contents in
    let is = rw c.in-Ok-false.field-0-test at c.in-Ok-false.ensures.frame in
    stream_ends c.args.how _ _ _ c.loop-out.read c.loop-out.capture (Appends (contents c.args.out.now) (contents c.loop-out.out))
    c.loop-out.invariant.told is.0 is.1

pub returns-in-Err-Device-clause-answered : goal.returns-in-Err-Device-clause-answered
returns-in-Err-Device-clause-answered g c = λ _.
    let f = c.loop-out.invariant.told in
    let is = rw c.in-Err-Device.field-0-is at c.in-Err-Device.ensures.frame in (
      concat f.frames ++ is.0,
      f.text,
      consumes_both _ _ _ (concat f.frames) is.0 f.consumed is.1,
      record {
        frames = f.frames;
        rest = is.0;
        cut = record { whole = refl; each = f.each; over = is.2.no_frame };
        part = is.2;
        status = c.loop-out.capture.status;
        tells = f.tells;
      },
      f.added,
    )

pub returns-in-Err-EndInside-clause-ok : goal.returns-in-Err-EndInside-clause-ok
returns-in-Err-EndInside-clause-ok g c =
    let contents = g.W.Write.contents in
    let is = rw c.in-Err-EndInside.field-0-is at c.in-Err-EndInside.ensures.frame in
    IfOk-weaker c.print_remark.result _ _ (λ status told.
    rw told.0 (stream_cut c.args.how _ _ _ c.loop-out.read is.0 told.1 c.loop-out.capture _ _
    (Appends (contents c.args.out.now) (contents c.print_remark.new.out))
    (joins_appends (contents c.args.out.now) (contents c.loop-out.out) (contents c.print_remark.new.out))
    c.loop-out.invariant.told is.1 (is.2.0, is.2.1) is.2.2 told.2 told.3)) c.print_remark.ensures.ok

pub returns-in-Err-Broken-clause-ok : goal.returns-in-Err-Broken-clause-ok
returns-in-Err-Broken-clause-ok g c =
    let contents = g.W.Write.contents in
    let is = rw c.in-Err-Broken.field-0-is at c.in-Err-Broken.ensures.frame in
    IfOk-weaker c.print_remark-in-Err-Broken.result _ _ (λ status told.
    rw told.0 (stream_breaks c.args.how _ _ _ c.loop-out.read is.0 told.1 c.loop-out.capture _ _
    (Appends (contents c.args.out.now) (contents c.print_remark-in-Err-Broken.new.out))
    (joins_appends (contents c.args.out.now) (contents c.loop-out.out) (contents c.print_remark-in-Err-Broken.new.out))
    c.loop-out.invariant.told is.1 is.2.0 told.2 told.3)) c.print_remark-in-Err-Broken.ensures.ok

pub returns-then-read-gt-MOST_BYTES-clause-too_long : goal.returns-then-read-gt-MOST_BYTES-clause-too_long
returns-then-read-gt-MOST_BYTES-clause-too_long g c = λ _.
    let frame = c.read_frame_into.new.frame.items in
    let f = c.loop-out.invariant.told in
    let is = rw c.in-Ok-true.field-0-test at c.in-Ok-true.ensures.frame in
    record {
      bytes = concat f.frames ++ frame;
      read = consumes_both _ _ _ (concat f.frames) frame f.consumed is.0;
      more = omega (arith, f.count, c.len-read.ensures.value, length-append (concat f.frames) frame);
    }

pub loop-out-preserved : goal.loop-out-preserved
loop-out-preserved g c =
    let contents = g.W.Write.contents in
    let is = rw c.in-Ok-true.field-0-test at c.in-Ok-true.ensures.frame in
    let told = rw c.as_slice.ensures.value at c.in_ok-print_frame.ensures.ok in
    record {
      told = rw c.len-read.ensures.value
          (streams_more c.args.how _ _ _ c.loop-out.read c.read_frame_into.new.frame.items c.loop-out.capture c.print_frame.new.self _ _
          (Appends (contents c.args.out.now) (contents c.print_frame.new.out))
          (joins_appends (contents c.args.out.now) (contents c.loop-out.out) (contents c.print_frame.new.out))
          c.loop-out.invariant.told is.0 is.1 told);
      bound = omega arith;
      failures = c.in-Ok-true.ensures.failures ∙ c.loop-out.invariant.failures;
    }
