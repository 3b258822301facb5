use Rattle.std.proofs.Common.{◌≡◌, length}
use Rattle.tpm_model.specs.Steps.{History, Origin}
use Rattle.tpm_device.specs.Stands.{Stands}
use Rattle.tpm_bench.proofs.device.tpm_bench_start.Given as goal

abbrev pub invariant-loop : goal.invariant-loop
invariant-loop l = record {
  room : length l.out ≡ length l.fn.out;
  stands : (o : Origin) × (h : History) × Stands o h l.device;
}
