use Rattle.std.proofs.Common.{ℕ, Ok, ◌∙◌, ◌&&◌, false, length, nat_le}
use Rattle.tpm_wire.specs.Layout.Form.{list}
use Rattle.tpm_wire.specs.ResponseCodes.{rc_size}
use Rattle.tpm_wire.specs.Spelling.{spelling, joined_all}
use Rattle.tpm_wire.specs.Buffers.{number_in}
use Rattle.tpm_wire.specs.Structures.{counted}
use Rattle.tpm_wire.proofs.Bounds.{read_few}
use Rattle.tpm_wire.proofs.Loop.{field_read, spelled_then}
use Rattle.tpm_wire.proofs.counted.CountedWire.take.Goals as goal

pub invariant_of-result : goal.invariant_of-result
invariant_of-result g c =
    let some = λ (n : ℕ). nat_le g.row.LEAST n && nat_le n g.row.MOST in
    let items = c.read_list.new.entries.items in
    let count = c.in_ok-read_list.ensures.count in
    let bounds = c.in_ok-count.ensures.bounds in (
      rw count bounds.0,
      rw count bounds.1,
      rw count bounds.2,
      λ _. read_few c.args.cursor.now.here.rest (spelling (number_in 4 some rc_size) c.in_ok-count.field-0)
          c.take_count.new.cursor.here.rest (joined_all g.T.Wire.layout items) c.read_list.new.cursor.here.rest
          c.in_ok-count.ensures.short c.in_ok-count.ensures.spelled c.in_ok-read_list.ensures.spelled,
    )

pub returns-clause-reads : goal.returns-clause-reads
unfolding counted
returns-clause-reads g c =
    let some = λ (n : ℕ). nat_le g.row.LEAST n && nat_le n g.row.MOST in (
      field_read length (number_in 4 some rc_size) (λ n. list n false (λ _. g.T.Wire.layout)) c.args.cursor.now.number
          c.take_count.new.cursor.number c.args.cursor.now.here c.take_count.new.cursor.here c.in_ok-count.field-0
          (Ok (c.read_list.new.entries.items, c.read_list.new.cursor.here)) c.in_ok-count.ensures.reads.0
          c.in_ok-count.ensures.reads.1 c.in_ok-read_list.ensures.reads.0,
      c.in_ok-read_list.ensures.reads.1 ∙ c.in_ok-count.ensures.reads.1,
    )

pub returns-clause-spelled : goal.returns-clause-spelled
unfolding counted
returns-clause-spelled g c =
    let some = λ (n : ℕ). nat_le g.row.LEAST n && nat_le n g.row.MOST in
    rw c.in_ok-read_list.ensures.count
    (spelled_then c.args.cursor.now.here.rest (spelling (number_in 4 some rc_size) c.in_ok-count.field-0)
    c.take_count.new.cursor.here.rest (joined_all g.T.Wire.layout c.read_list.new.entries.items)
    c.read_list.new.cursor.here.rest c.in_ok-count.ensures.spelled c.in_ok-read_list.ensures.spelled)
