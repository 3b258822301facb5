use Rattle.std.proofs.Common.{ap, ◌∙◌, arith}
use Rattle.std.proofs.lemmas.List.{take_rest}
use Rattle.tpm_stream.specs.Frames.{stated}
use Rattle.tpm_stream.proofs.Framed.{pushes_short, pushes_broken, pushes_part, pushes_ready}
use Rattle.tpm_stream.proofs.framer.go_on.Goals as goal

pub returns-then-len-lt-SIZE_END-clause-pushes : goal.returns-then-len-lt-SIZE_END-clause-pushes
returns-then-len-lt-SIZE_END-clause-pushes c =
    pushes_short c.args.held.now c.args.piece.now _ _ c.take_up_to-size_bytes.ensures.count c.take_up_to-size_bytes.ensures.held (omega arith)

pub returns-in-Err-clause-pushes : goal.returns-in-Err-clause-pushes
returns-in-Err-clause-pushes c =
    pushes_broken c.args.held.now c.args.piece.now _ _ _ c.take_up_to-size_bytes.ensures.count c.take_up_to-size_bytes.ensures.held (omega arith)
    (rw c.as_slice.ensures at c.in-Err.ensures.0) c.in-Err.ensures.1

pub returns-then-len-size-clause-pushes : goal.returns-then-len-size-clause-pushes
returns-then-len-size-clause-pushes c =
    pushes_part c.args.held.now c.args.piece.now c.take_up_to-size_bytes.new.self _ _ _ c.in-Ok.size c.requires
    c.take_up_to-size_bytes.ensures.count c.take_up_to-size_bytes.ensures.held (omega arith)
    (c.in-Ok.ensures.0 ∙ ap stated c.as_slice.ensures) c.in-Ok.ensures.1 c.in-Ok.ensures.2
    (rw take_rest at c.take_up_to.ensures.count) (rw take_rest at c.take_up_to.ensures.held) (omega arith)

pub returns-clause-pushes : goal.returns-clause-pushes
returns-clause-pushes c =
    pushes_ready c.args.held.now c.args.piece.now c.take_up_to-size_bytes.new.self _ _ _ c.in-Ok.size c.requires
    c.take_up_to-size_bytes.ensures.count c.take_up_to-size_bytes.ensures.held (omega arith)
    (c.in-Ok.ensures.0 ∙ ap stated c.as_slice.ensures) c.in-Ok.ensures.1 c.in-Ok.ensures.2
    (rw take_rest at c.take_up_to.ensures.count) (rw take_rest at c.take_up_to.ensures.held) (omega arith)
