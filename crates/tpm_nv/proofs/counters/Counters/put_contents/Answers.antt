use Rattle.tpm_model.specs.Counters.{NvMemory}
use Rattle.tpm_nv.proofs.Memory.{contents_put}
use Rattle.tpm_nv.proofs.counters.Counters.put_contents.Goals as goal

pub returns : goal.returns
returns g c =
    let self : NvMemory = record { counters = c.self.inside.counters.items; greatest = c.self.inside.greatest } in
    rw (← c.self.view_is) (contents_put self (g.R.Room.written c.args.out.now) (g.R.Room.written c.put.new.out)
    (g.R.Room.written c.put-2.new.out) (g.R.Room.written c.put-3.new.out)
    (g.R.Room.written c.put_counters.new.out)
    c.as_slice.result.now c.put.ensures c.put-2.ensures c.put-3.ensures c.put_counters.ensures c.as_slice.ensures.value)
