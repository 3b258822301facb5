use Rattle.std.proofs.Common.{sym, append-nil}
use Rattle.tpm_stream.proofs.framer.Held.take_up_to.Goals as goal

pub returns-then-count-eq0-clause-held : goal.returns-then-count-eq0-clause-held
returns-then-count-eq0-clause-held c = sym (append-nil _)
