use Rattle.std.proofs.Common.{ℕ, ◌∙◌, ◌∷◌, [], false, refl, sym, ap, arith, inl, length-append}
use Rattle.std.proofs.lemmas.Result.{err_from_is_err_and}
use Rattle.tpm_wire.specs.Reading.{read, entries}
use Rattle.tpm_wire.proofs.Loop.{goes_on, ends, is_done, joined_push, written_last}
use Rattle.tpm_wire.proofs.counted.read_list.Goals as goal

pub loop-preserved : goal.loop-preserved
loop-preserved g c =
    let is = ap (λ (k : ℕ). read k g.T.Wire.layout c.loop.cursor.here) (sym c.loop.invariant.number) ∙ c.in_ok-read.ensures.reads.0 in
    let items =
    written_last c.loop.entries.items c.push.new.self.items c.as_mut_slice.result.now c.default.result
    c.read.new.self c.len-last.result c.push.ensures.items c.as_mut_slice.ensures.value
    c.len-last.ensures.value in
    record {
      so_far = rw items (goes_on (λ _. read c.args.cursor.now.number g.T.Wire.layout) false c.loop.entries.items c.args.count c.loop.counter
          c.loop.cursor.here c.read.new.cursor.here c.read.new.self
          (entries c.args.count [] false (λ _. read c.args.cursor.now.number g.T.Wire.layout) c.args.cursor.now.here)
          c.loop-test.true refl is c.loop.invariant.so_far);
      number = c.in_ok-read.ensures.reads.1 ∙ c.loop.invariant.number;
      spelled =
          rw items
          (joined_push g.T.Wire.layout _ c.loop.cursor.here.rest c.read.new.cursor.here.rest c.loop.entries.items
          c.read.new.self c.loop.invariant.spelled c.in_ok-read.ensures.spelled);
      len = rw items (omega (arith, c.loop.invariant.len, length-append c.loop.entries.items (c.read.new.self ∷ [])));
    }

pub returns-clause-reads : goal.returns-clause-reads
returns-clause-reads g c = (
  is_done (λ _. read c.args.cursor.now.number g.T.Wire.layout) false c.loop.entries.items c.args.count c.loop.counter
      c.loop.cursor.here (entries c.args.count [] false (λ _. read c.args.cursor.now.number g.T.Wire.layout) c.args.cursor.now.here)
      (inl c.loop-test.false) c.loop.invariant.so_far,
  c.loop.invariant.number,
)

pub returns-clause-spelled : goal.returns-clause-spelled
returns-clause-spelled g c = c.loop.invariant.spelled

pub returns-in_err-read-clause-reads : goal.returns-in_err-read-clause-reads
returns-in_err-read-clause-reads g c =
    let p = err_from_is_err_and c.from_residual.result c.from_residual.ensures.1 in
    let is = ap (λ (k : ℕ). read k g.T.Wire.layout c.loop.cursor.here) (sym c.loop.invariant.number) ∙ c.in_err-read.ensures.reads in
    rw (p.1, p.2)
    (ends (λ _. read c.args.cursor.now.number g.T.Wire.layout) false c.loop.entries.items c.args.count c.loop.counter
    c.loop.cursor.here c.in_err-read.field-0.0
    (entries c.args.count [] false (λ _. read c.args.cursor.now.number g.T.Wire.layout) c.args.cursor.now.here)
    c.loop-test.true refl is c.loop.invariant.so_far)

pub push-requires : goal.push-requires
push-requires g c = omega (arith, c.loop.invariant.len, c.loop-test.true, c.requires)
