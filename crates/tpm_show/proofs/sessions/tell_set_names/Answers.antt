use Rattle.std.proofs.Common.{◌<◌, ℕ, List, Bor}
use Rattle.std.proofs.lemmas.List.Elements.{All-from_recursion}
use Rattle.tpm_show.proofs.sessions.tell_set_names.Goals as goal

pub is_set-requires : goal.is_set-requires
is_set-requires g c = All-from_recursion (λ (bit : ℕ × Bor (List ℕ)). bit.0 < 32) c.args.table.now c.requires c.loop-bit.bit-index _ c.loop-bit-test.true
