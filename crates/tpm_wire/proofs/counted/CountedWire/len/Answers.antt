use Rattle.std.proofs.Common.{◌≡◌, length, arith}
use Rattle.tpm_wire.specs.Spelling.{joined_all}
use Rattle.tpm_wire.specs.Structures.{counted}
use Rattle.tpm_wire.proofs.Bounds.{all_counted, within}
use Rattle.tpm_wire.proofs.counted.CountedWire.len.Goals as goal

pub overflow_add-result : goal.overflow_add-result
overflow_add-result g c =
    let items = c.as_slice.result.now in
    let value : items ≡ c.self.inside.entries.items = c.as_slice.ensures.value in
    let most = within (length items) g.row.MOST g.T.Wire.most c.capped_len.result (rw value c.self.invariant.1) c.capped_len.ensures.fits in
    let all = all_counted _ c.capped_len.result (length (joined_all g.T.Wire.layout items)) most c.capped_len.ensures.value (rw value c.self.invariant.3) in
    omega (arith, all.1)

pub returns-clause-fits : goal.returns-clause-fits
returns-clause-fits g c =
    let items = c.as_slice.result.now in
    let value : items ≡ c.self.inside.entries.items = c.as_slice.ensures.value in
    omega (arith, within (length items) g.row.MOST g.T.Wire.most c.capped_len.result (rw value c.self.invariant.1) c.capped_len.ensures.fits)

pub returns-clause-value : goal.returns-clause-value
unfolding counted
returns-clause-value g c =
    let items = c.as_slice.result.now in
    let value : items ≡ c.self.inside.entries.items = c.as_slice.ensures.value in
    let most = within (length items) g.row.MOST g.T.Wire.most c.capped_len.result (rw value c.self.invariant.1) c.capped_len.ensures.fits in
    let all = all_counted _ c.capped_len.result (length (joined_all g.T.Wire.layout items)) most c.capped_len.ensures.value (rw value c.self.invariant.3) in
    rw (all.0, value, c.self.view_is) (omega arith)
