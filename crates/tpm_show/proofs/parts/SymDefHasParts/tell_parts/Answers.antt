use Rattle.tpm_types.specs.Tpmt.{sym_def, algorithm, mode}
use Rattle.tpm_show.proofs.Pieces.{pieces}
use Rattle.tpm_show.proofs.parts.SymDefHasParts.tell_parts.Goals as goal

pub returns-in_ok-tell-in-Aes : goal.returns-in_ok-tell-in-Aes
unfolding sym_def algorithm mode
returns-in_ok-tell-in-Aes g c =
    rw c.in-Aes.is (simp pieces (simp (c.in_ok-tell-in-Aes.ensures, c.in_ok-tell_algorithm-in-Aes.ensures, pieces) at c.tell-in-Aes.ensures))

pub returns-in_ok-tell_algorithm-in-Xor : goal.returns-in_ok-tell_algorithm-in-Xor
unfolding sym_def algorithm
returns-in_ok-tell_algorithm-in-Xor g c =
    rw c.in-Xor.is (simp pieces (simp (c.in_ok-tell_algorithm-in-Xor.ensures, pieces) at c.tell-in-Xor.ensures))
