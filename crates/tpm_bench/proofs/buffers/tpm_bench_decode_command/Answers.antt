use Rattle.std.proofs.Common.{refl, inl, inr}
use Rattle.tpm_bench.proofs.buffers.tpm_bench_decode_command.Goals as goal

pub returns-in-Ok : goal.returns-in-Ok
returns-in-Ok c = inl (c.in-Ok.field-0, (c.decode_command.ensures.ok c.in-Ok.field-0).0 c.in-Ok.is, refl)

pub returns-in-Err : goal.returns-in-Err
returns-in-Err c = inr (c.in-Err.refusal, (c.decode_command.ensures.err c.in-Err.refusal).0 c.in-Err.is, refl)
