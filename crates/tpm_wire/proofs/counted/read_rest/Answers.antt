use Rattle.std.proofs.Common.{ℕ, sym, ap, ◌∙◌, ◌++◌, ◌∷◌, [], ◌≡◌, ◌<◌, ◌≤◌, ◌+◌, ◌*◌, length, Ok, Err, true, false, arith, inl, inr, eqb}
use Rattle.std.proofs.Common.{length-append}
use Rattle.std.proofs.lemmas.Bool.{ne_eqb, eq-eqb}
use Rattle.std.proofs.lemmas.Result.{err_from_is_err_and}
use Rattle.tpm_wire.specs.ResponseCodes.{greatest_number}
use Rattle.tpm_wire.specs.Spelling.{spelling}
use Rattle.tpm_wire.specs.Reading.{read, entries}
use Rattle.tpm_wire.specs.Buffers.{Place}
use Rattle.tpm_wire.proofs.Loop.{at_place, goes_on, ends, is_done, joined_push, written_last}
use Rattle.tpm_wire.proofs.counted.read_rest.Goals as goal

numbered_below : (first most last greatest : ℕ) → last < most → first + 0x100 * most ≤ greatest → first + 0x100 * last ≤ greatest
numbered_below first most last greatest lt le = omega arith

pub loop-entries-preserved : goal.loop-entries-preserved
loop-entries-preserved g c =
    let items = c.loop-entries.entries.items in
    let here = c.loop-entries.cursor.here in
    let entry = c.read.new.self in
    let is =
    at_place g.T.Wire.layout c.number.new.self here (c.args.first + 0x100 * c.len-last.result)
    (c.args.first + 0x100 * length items) (Ok (entry, c.read.new.cursor.here)) c.number.ensures
    (omega arith) c.in_ok-read.ensures.reads.0 in
    let more : eqb (length here.rest) 0 ≡ false = ne_eqb (length here.rest) 0 (λ e. omega (arith, e)) in
    let all =
    written_last items c.push.new.self.items c.as_mut_slice.result.now c.default.result entry c.len-last.result
    c.push.ensures.items c.as_mut_slice.ensures.value c.len-last.ensures.value in
    let len : length (items ++ entry ∷ []) ≡ length items + 1 = length-append items (entry ∷ []) in
    let text : here.rest ≡ spelling g.T.Wire.layout entry ++ c.read.new.cursor.here.rest =
    sym (ap (λ (p : Place). p.here.rest) c.number.ensures) ∙ c.in_ok-read.ensures.spelled in
    record {
      so_far =
          rw (all, len)
          (goes_on (λ before. read (c.args.first + 0x100 * length before) g.T.Wire.layout) true items c.args.most
          (length items) here c.read.new.cursor.here entry
          (entries c.args.most [] true (λ before. read (c.args.first + 0x100 * length before) g.T.Wire.layout)
          c.args.cursor.now.here)
          (omega arith) more is c.loop-entries.invariant.so_far);
      few = rw all (omega (arith, len));
      spelled = rw all (joined_push g.T.Wire.layout _ here.rest c.read.new.cursor.here.rest items entry c.loop-entries.invariant.spelled text);
    }

pub returns-after-loop-entries-clause-reads : goal.returns-after-loop-entries-clause-reads
returns-after-loop-entries-clause-reads g c =
    is_done (λ before. read (c.args.first + 0x100 * length before) g.T.Wire.layout) true c.loop-entries.entries.items
    c.args.most (length c.loop-entries.entries.items) c.loop-entries.cursor.here
    (entries c.args.most [] true (λ before. read (c.args.first + 0x100 * length before) g.T.Wire.layout)
    c.args.cursor.now.here)
    (inr (eq-eqb (length c.loop-entries.cursor.here.rest) 0 (omega arith))) c.loop-entries.invariant.so_far

pub returns-else-len-most-clause-reads : goal.returns-else-len-most-clause-reads
returns-else-len-most-clause-reads g c =
    is_done (λ before. read (c.args.first + 0x100 * length before) g.T.Wire.layout) true c.loop-entries.entries.items
    c.args.most (length c.loop-entries.entries.items) c.loop-entries.cursor.here
    (entries c.args.most [] true (λ before. read (c.args.first + 0x100 * length before) g.T.Wire.layout)
    c.args.cursor.now.here)
    (inl (omega arith)) c.loop-entries.invariant.so_far

pub returns-in_err-read-clause-reads : goal.returns-in_err-read-clause-reads
returns-in_err-read-clause-reads g c =
    let items = c.loop-entries.entries.items in
    let here = c.loop-entries.cursor.here in
    let p = err_from_is_err_and c.from_residual.result c.from_residual.ensures.1 in
    let is =
    at_place g.T.Wire.layout c.number.new.self here (c.args.first + 0x100 * c.len-last.result)
    (c.args.first + 0x100 * length items) (Err c.in_err-read.field-0.0) c.number.ensures
    (omega arith) c.in_err-read.ensures.reads in
    rw (p.1, p.2)
    (ends (λ before. read (c.args.first + 0x100 * length before) g.T.Wire.layout) true items c.args.most
    (length items) here _ _ (omega arith) (ne_eqb (length here.rest) 0 (λ e. omega (arith, e))) is
    c.loop-entries.invariant.so_far)

pub returns-after-loop-entries-clause-spelled : goal.returns-after-loop-entries-clause-spelled
returns-after-loop-entries-clause-spelled g c = c.loop-entries.invariant.spelled

pub returns-after-loop-entries-clause-few : goal.returns-after-loop-entries-clause-few
returns-after-loop-entries-clause-few g c = c.loop-entries.invariant.few

pub returns-else-len-most-clause-spelled : goal.returns-else-len-most-clause-spelled
returns-else-len-most-clause-spelled g c = c.loop-entries.invariant.spelled

pub returns-else-len-most-clause-few : goal.returns-else-len-most-clause-few
returns-else-len-most-clause-few g c = c.loop-entries.invariant.few

pub number-requires : goal.number-requires
number-requires g c =
    let last : c.len-last.result < c.args.most = omega (arith, c.len-last.ensures.value, c.len.ensures.value, c.if-len-most.true) in
    numbered_below c.args.first c.args.most c.len-last.result greatest_number last c.requires.numbers

pub overflow_cast-last : goal.overflow_cast-last
overflow_cast-last g c = omega (arith, c.len-last.ensures.value, c.len.ensures.value, c.if-len-most.true, c.requires.numbers)

pub overflow_mul-last : goal.overflow_mul-last
overflow_mul-last g c = omega (arith, c.len-last.ensures.value, c.len.ensures.value, c.if-len-most.true, c.requires.numbers)

pub overflow_add-first : goal.overflow_add-first
overflow_add-first g c = omega (arith, c.len-last.ensures.value, c.len.ensures.value, c.if-len-most.true, c.requires.numbers)

pub push-requires : goal.push-requires
push-requires g c = omega (arith, c.len.ensures.value, c.if-len-most.true, c.requires.room)
