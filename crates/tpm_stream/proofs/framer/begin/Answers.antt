use Rattle.std.proofs.Common.{ap, length, arith}
use Rattle.tpm_stream.proofs.Framed.{begins_part, begins_ready}
use Rattle.tpm_stream.proofs.framer.begin.Goals as goal

pub returns-then-taken-size-clause-pushes : goal.returns-then-taken-size-clause-pushes
returns-then-taken-size-clause-pushes c =
    let size = c.requires.size in
    begins_part c.args.piece.now _ _ c.args.size size.0 size.1 size.2 size.3
    (omega (arith, c.take_up_to-taken.ensures.count, ap length c.requires.empty))
    (rw c.requires.empty at c.take_up_to-taken.ensures.held) (omega arith)

pub returns-else-taken-size-clause-pushes : goal.returns-else-taken-size-clause-pushes
returns-else-taken-size-clause-pushes c =
    let size = c.requires.size in
    begins_ready c.args.piece.now _ _ c.args.size size.0 size.1 size.2 size.3
    (omega (arith, c.take_up_to-taken.ensures.count, ap length c.requires.empty))
    (rw c.requires.empty at c.take_up_to-taken.ensures.held) (omega arith)
