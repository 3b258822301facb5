use Rattle.std.proofs.Common.{◌≡◌, ap, sym, subst, ◌∙◌, take}
use Rattle.tpm_wire.specs.Path.{Spells}
use Rattle.tpm_buffer.specs.Commands.{command}
use Rattle.tpm_bench.proofs.buffers.put.Goals as goal

pub returns-clause-spelled : goal.returns-clause-spelled
returns-clause-spelled c =
    let all : take c.append.result c.append.new.out ≡ c.encode_command-encoded.result.items =
    ap (λ n. take n c.append.new.out) c.append.ensures.count ∙ c.append.ensures.bytes ∙ c.as_slice.ensures.value in
    subst (Spells command c.args.command.now) (sym all) c.encode_command-encoded.ensures.spells
