use Rattle.std.proofs.Common.{◌≡◌, ℕ, List, ◌++◌, ◌∙◌, ap, arith, length, length-append}
use Rattle.tpm_wire.specs.Buffers.{any_number}
use Rattle.tpm_wire.specs.Spelling.{spelling, joined_all}
use Rattle.tpm_wire.specs.Structures.{counted}
use Rattle.tpm_wire.proofs.Loop.{put_then}
use Rattle.tpm_wire.proofs.counted.CountedWire.put.Goals as goal

pub put-requires : goal.put-requires
unfolding counted
put-requires g c = omega (arith, c.requires)

pub put_list-requires : goal.put_list-requires
unfolding counted
put_list-requires g c =
    let before = g.R.Room.written c.args.out.now in
    let same : c.as_slice.result.now ≡ c.args.self.now = c.as_slice.ensures.value ∙ c.self.view_is in
    rw same (omega (arith, c.requires, ap length c.put.ensures, length-append before (spelling (any_number 4) c.len.result)))

pub returns : goal.returns
unfolding counted
returns g c =
    let before = g.R.Room.written c.args.out.now in
    let between = g.R.Room.written c.put.new.out in
    let same : c.as_slice.result.now ≡ c.args.self.now = c.as_slice.ensures.value ∙ c.self.view_is in
    let count : c.len.result ≡ length c.args.self.now = c.len.ensures.value ∙ ap length c.self.view_is in
    put_then before between (g.R.Room.written c.put_list.new.out) (spelling (any_number 4) (length c.args.self.now))
    (joined_all g.T.Wire.layout c.args.self.now)
    (c.put.ensures ∙ ap (λ (n : ℕ). before ++ spelling (any_number 4) n) count)
    (c.put_list.ensures ∙ ap (λ (xs : List g.row.T.Denot). between ++ joined_all g.T.Wire.layout xs) same)
