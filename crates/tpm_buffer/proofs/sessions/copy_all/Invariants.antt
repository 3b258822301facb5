use Rattle.std.specs.Prelude.{◌≡◌, take}
use Rattle.tpm_buffer.proofs.sessions.copy_all.Given as goal

abbrev pub invariant-loop-session : goal.invariant-loop-session
invariant-loop-session l = l.auths.items ≡ take l.session-index l.sessions
