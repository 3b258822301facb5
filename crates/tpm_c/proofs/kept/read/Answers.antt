use Rattle.tpm_c.proofs.KeptDevices.{read_again, spelled_faultless}
use Rattle.tpm_c.proofs.kept.read.Goals as goal

pub unreachable-requires : goal.unreachable-requires
unreachable-requires c = spelled_faultless c.args.kept.now c.requires c.in-Err.ensures.decodes

pub returns : goal.returns
returns c =
    read_again c.args.kept.now c.args.device.now c.read_nv.new.self c.read_nv.result c.requires
    c.read_nv.ensures.decodes c.read_nv.ensures.made c.read_nv.ensures.stands
