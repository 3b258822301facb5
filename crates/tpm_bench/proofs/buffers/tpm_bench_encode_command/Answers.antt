use Rattle.std.proofs.Common.{refl, inl, inr}
use Rattle.tpm_bench.proofs.buffers.tpm_bench_encode_command.Goals as goal

pub returns-in-Ok : goal.returns-in-Ok
returns-in-Ok c = inl (c.in-Ok.command, (c.decode_command.ensures.ok c.in-Ok.command).0 c.in-Ok.is, c.encode.ensures)

pub returns-in-Err : goal.returns-in-Err
returns-in-Err c = inr (c.in-Err.field-0, (c.decode_command.ensures.err c.in-Err.field-0).0 c.in-Err.is, refl)
