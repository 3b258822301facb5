use Rattle.std.proofs.Common.{◌≡◌, ap, subst, sym}
use Rattle.tpm_model.specs.Present.{Present}
use Rattle.tpm_model.specs.Kept.{IsFair}
use Rattle.tpm_model.proofs.Fair.{fair_spelled}
use Rattle.tpm_device.specs.Stands.{holds}
use Rattle.tpm_device.proofs.device.Device.from_nv.Goals as goal

pub returns-clause-stands : goal.returns-clause-stands
returns-clause-stands c o h same kept = c.of_counters.ensures.stands o h c.args.bytes.now c.in_ok-read_bytes.ensures same kept

pub returns-clause-fair : goal.returns-clause-fair
returns-clause-fair c =
    let same : (holds c.of_counters.result).nv ≡ c.read_bytes.new.self = ap (λ (p : Present). p.nv) c.of_counters.ensures.made in
    subst IsFair (sym same) (fair_spelled c.read_bytes.new.self c.args.bytes.now c.in_ok-read_bytes.ensures)
