use Rattle.std.proofs.Common.{ℕ, Ok, Err, ◌∙◌, ◌&&◌, false, length, nat_le}
use Rattle.std.proofs.lemmas.Result.{err_from_is_err_and}
use Rattle.tpm_wire.specs.Layout.Form.{list}
use Rattle.tpm_wire.specs.ResponseCodes.{rc_size}
use Rattle.tpm_wire.specs.Spelling.{spelling, joined_all}
use Rattle.tpm_wire.specs.Buffers.{number_in}
use Rattle.tpm_wire.specs.Structures.{counted}
use Rattle.tpm_wire.proofs.Bounds.{read_few}
use Rattle.tpm_wire.proofs.Loop.{field_read, field_refused, spelled_then}
use Rattle.tpm_wire.proofs.counted.CountedWire.read.Goals as goal

pub invariant_of-self-in-Ok : goal.invariant_of-self-in-Ok
invariant_of-self-in-Ok g c =
    let some = λ (n : ℕ). nat_le g.row.LEAST n && nat_le n g.row.MOST in
    let items = c.read_list.new.entries.items in
    let count = c.in-Ok.ensures.count in
    let bounds = c.in_ok-count.ensures.bounds in (
      rw count bounds.0,
      rw count bounds.1,
      rw count bounds.2,
      λ _. read_few c.args.cursor.now.here.rest (spelling (number_in 4 some rc_size) c.in_ok-count.field-0)
          c.take_count.new.cursor.here.rest (joined_all g.T.Wire.layout items) c.read_list.new.cursor.here.rest
          c.in_ok-count.ensures.short c.in_ok-count.ensures.spelled c.in-Ok.ensures.spelled,
    )

pub returns-in-Ok-clause-reads : goal.returns-in-Ok-clause-reads
unfolding counted
returns-in-Ok-clause-reads g c =
    let some = λ (n : ℕ). nat_le g.row.LEAST n && nat_le n g.row.MOST in (
      field_read length (number_in 4 some rc_size) (λ n. list n false (λ _. g.T.Wire.layout)) c.args.cursor.now.number
          c.take_count.new.cursor.number c.args.cursor.now.here c.take_count.new.cursor.here c.in_ok-count.field-0
          (Ok (c.read_list.new.entries.items, c.read_list.new.cursor.here)) c.in_ok-count.ensures.reads.0
          c.in_ok-count.ensures.reads.1 c.in-Ok.ensures.reads.0,
      c.in-Ok.ensures.reads.1 ∙ c.in_ok-count.ensures.reads.1,
    )

pub returns-in-Ok-clause-spelled : goal.returns-in-Ok-clause-spelled
unfolding counted
returns-in-Ok-clause-spelled g c =
    let some = λ (n : ℕ). nat_le g.row.LEAST n && nat_le n g.row.MOST in
    rw c.in-Ok.ensures.count
    (spelled_then c.args.cursor.now.here.rest (spelling (number_in 4 some rc_size) c.in_ok-count.field-0)
    c.take_count.new.cursor.here.rest (joined_all g.T.Wire.layout c.read_list.new.entries.items)
    c.read_list.new.cursor.here.rest c.in_ok-count.ensures.spelled c.in-Ok.ensures.spelled)

pub returns-in-Err-clause-reads : goal.returns-in-Err-clause-reads
unfolding counted
returns-in-Err-clause-reads g c =
    let some = λ (n : ℕ). nat_le g.row.LEAST n && nat_le n g.row.MOST in
    field_read length (number_in 4 some rc_size) (λ n. list n false (λ _. g.T.Wire.layout)) c.args.cursor.now.number
    c.take_count.new.cursor.number c.args.cursor.now.here c.take_count.new.cursor.here c.in_ok-count.field-0
    (Err c.in-Err.refusal) c.in_ok-count.ensures.reads.0 c.in_ok-count.ensures.reads.1 c.in-Err.ensures.reads

pub returns-in_err-count-clause-reads : goal.returns-in_err-count-clause-reads
unfolding counted
returns-in_err-count-clause-reads g c =
    let some = λ (n : ℕ). nat_le g.row.LEAST n && nat_le n g.row.MOST in
    let p = err_from_is_err_and c.from_residual-in_err-count.result c.from_residual-in_err-count.ensures.1 in
    rw (p.1, p.2)
    (field_refused length (number_in 4 some rc_size) (λ n. list n false (λ _. g.T.Wire.layout)) c.args.cursor.now.number
    c.args.cursor.now.here c.in_err-count.field-0.0 c.in_err-count.ensures.reads)
