-- A digest with its bank.
use Rattle.std.specs.Prelude.{◌≡◌, ℕ, List, length}
use Rattle.tpm_types.specs.declared.alg.Alg.{Alg}
use Rattle.tpm_types.specs.Alg.{digest_len}

-- the digest is as long as those of its hash
abbrev pub IsDigestValue : Alg × List ℕ → Type 0
IsDigestValue d = length d.1 ≡ digest_len d.0
