use Rattle.std.proofs.Common.{◌≡◌, ◌++◌, List, ℕ, length, arith, sym, subst, ◌∙◌, ap}
use Rattle.std.proofs.lemmas.Result.{err_from_is_err_and}
use Rattle.std.specs.Io.KnownBytes.{Consumes}
use Rattle.tpm_stream.specs.Frames.{IsFrame}
use Rattle.tpm_stream.proofs.Filled.{failed_inside, ended_inside, meets_both, whole_frame, part_length, whole_buffer, short_read}
use Rattle.tpm_stream.proofs.reader.read_into.Goals as goal

pub returns-then-count-lt-SIZE_END-clause-frame : goal.returns-then-count-lt-SIZE_END-clause-frame
returns-then-count-lt-SIZE_END-clause-frame g c =
    let first = c.in_ok-count.ensures.bytes in
    let six : length c.fill.new.room ≡ 6 = omega (arith, c.fill.auto.room) in
    short_read _ _ c.fill.new.room c.in_ok-count.count six first.0 (omega arith) (omega arith) first.1 first.2

pub returns-in_err-count-2-clause-frame : goal.returns-in_err-count-2-clause-frame
returns-in_err-count-2-clause-frame g c =
    let first = c.in_ok-count.ensures.bytes in
    let size = c.in_ok-size.ensures in
    let more = c.in_err-count-2.ensures.bytes in
    let six : length c.fill.new.room ≡ 6 = omega (arith, c.fill.auto.room) in
    let whole : length c.as_mut_slice.result.now ≡ c.in_ok-size.size = ap length c.as_mut_slice.ensures.value ∙ c.begin.ensures.2 in
    let read =
    failed_inside _ _ _ c.fill.new.room c.fill-2.new.room c.as_mut_slice.result.now c.in_ok-count.count
    c.in_ok-size.size six first.1 (omega arith) size.0 size.1 size.2 c.fill-2.auto.room whole more.0 more.1
    more.2 in
    let fault = err_from_is_err_and c.from_residual-in_err-count-2.result c.from_residual-in_err-count-2.ensures.1 in
    rw (fault.1, fault.2) read

pub returns-then-count-size-clause-frame : goal.returns-then-count-size-clause-frame
returns-then-count-size-clause-frame g c =
    let first = c.in_ok-count.ensures.bytes in
    let size = c.in_ok-size.ensures in
    let more = c.in_ok-count-2.ensures.bytes in
    let six : length c.fill.new.room ≡ 6 = omega (arith, c.fill.auto.room) in
    let whole : length c.as_mut_slice.result.now ≡ c.in_ok-size.size = ap length c.as_mut_slice.ensures.value ∙ c.begin.ensures.2 in
    ended_inside _ _ _ c.fill.new.room c.fill-2.new.room c.as_mut_slice.result.now c.in_ok-count.count c.in_ok-size.size
    six first.1 (omega arith) size.0 size.1 size.2 c.fill-2.auto.room whole c.in_ok-count-2.count more.0 more.1
    more.2 (omega arith)

pub returns-clause-frame : goal.returns-clause-frame
returns-clause-frame g c =
    let first = c.in_ok-count.ensures.bytes in
    let size = c.in_ok-size.ensures in
    let more = c.in_ok-count-2.ensures.bytes in
    let front = c.fill.new.room in
    let part = c.fill-2.new.room in
    let held = c.as_mut_slice.result.now in
    let six : length front ≡ 6 = omega (arith, c.fill.auto.room) in
    let whole : length held ≡ c.in_ok-size.size = ap length c.as_mut_slice.ensures.value ∙ c.begin.ensures.2 in
    let rest = part_length held part c.in_ok-size.size c.fill-2.auto.room whole size.1 in
    let begins : held ≡ front ++ c.begin.ensures.0 = c.as_mut_slice.ensures.value ∙ c.begin.ensures.1 in
    let is = whole_buffer c.begin.new.frame.items held part front c.begin.ensures.0 _ c.in_ok-size.size c.begin.ensures.2 begins whole six rest in
    let read =
    whole_frame _ _ _ front part held c.in_ok-count.count c.in_ok-size.size six first.1 (omega arith) size.0
    size.1 size.2 c.fill-2.auto.room whole c.in_ok-count-2.count more.0 more.1 (omega arith) in
    subst (λ (bs : List ℕ). Consumes (g.R.Source.coming c.args.source.now) (g.R.Source.coming c.fill-2.new.source) bs × IsFrame bs) (sym is) read

-- ---- how many reads met the end

pub returns-in_err-count-clause-ends : goal.returns-in_err-count-clause-ends
returns-in_err-count-clause-ends g c =
    let fault = err_from_is_err_and c.from_residual.result c.from_residual.ensures.1 in
    rw (fault.1, fault.2) c.in_err-count.ensures.ends

pub returns-then-count-eq0-clause-ends : goal.returns-then-count-eq0-clause-ends
returns-then-count-eq0-clause-ends g c =
    let six : length c.fill.new.room ≡ 6 = omega (arith, c.fill.auto.room) in
    c.in_ok-count.ensures.ends.0 (omega (arith, six))

pub returns-then-count-lt-SIZE_END-clause-ends : goal.returns-then-count-lt-SIZE_END-clause-ends
returns-then-count-lt-SIZE_END-clause-ends g c =
    let six : length c.fill.new.room ≡ 6 = omega (arith, c.fill.auto.room) in
    c.in_ok-count.ensures.ends.0 (omega (arith, six))

pub returns-in_err-size-clause-ends : goal.returns-in_err-size-clause-ends
returns-in_err-size-clause-ends g c =
    let six : length c.fill.new.room ≡ 6 = omega (arith, c.fill.auto.room) in
    let fault = err_from_is_err_and c.from_residual-in_err-size.result c.from_residual-in_err-size.ensures.1 in
    rw (fault.1, fault.2) (c.in_ok-count.ensures.ends.1 (omega (arith, six)))

pub returns-in_err-count-2-clause-ends : goal.returns-in_err-count-2-clause-ends
returns-in_err-count-2-clause-ends g c =
    let six : length c.fill.new.room ≡ 6 = omega (arith, c.fill.auto.room) in
    let fault = err_from_is_err_and c.from_residual-in_err-count-2.result c.from_residual-in_err-count-2.ensures.1 in
    rw (fault.1, fault.2) (meets_both _ _ _ 0 0 (c.in_ok-count.ensures.ends.1 (omega (arith, six))) c.in_err-count-2.ensures.ends)

pub returns-then-count-size-clause-ends : goal.returns-then-count-size-clause-ends
returns-then-count-size-clause-ends g c =
    let six : length c.fill.new.room ≡ 6 = omega (arith, c.fill.auto.room) in
    let whole : length c.as_mut_slice.result.now ≡ c.in_ok-size.size = ap length c.as_mut_slice.ensures.value ∙ c.begin.ensures.2 in
    let rest = part_length c.as_mut_slice.result.now c.fill-2.new.room c.in_ok-size.size c.fill-2.auto.room whole c.in_ok-size.ensures.1 in
    meets_both _ _ _ 0 1 (c.in_ok-count.ensures.ends.1 (omega (arith, six))) (c.in_ok-count-2.ensures.ends.0 (omega (arith, rest)))

pub returns-clause-ends : goal.returns-clause-ends
returns-clause-ends g c =
    let six : length c.fill.new.room ≡ 6 = omega (arith, c.fill.auto.room) in
    let whole : length c.as_mut_slice.result.now ≡ c.in_ok-size.size = ap length c.as_mut_slice.ensures.value ∙ c.begin.ensures.2 in
    let rest = part_length c.as_mut_slice.result.now c.fill-2.new.room c.in_ok-size.size c.fill-2.auto.room whole c.in_ok-size.ensures.1 in
    meets_both _ _ _ 0 0 (c.in_ok-count.ensures.ends.1 (omega (arith, six))) (c.in_ok-count-2.ensures.ends.1 (omega (arith, rest)))
