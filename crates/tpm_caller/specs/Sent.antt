-- What is kept of a sealed command until its reply comes.
use Rattle.std.specs.Prelude.{ℕ, List, length, nat_lt, Option, Some, None, if◌then◌else◌}
use Rattle.tpm_wire.specs.Path.{Spells}
use Rattle.tpm_types.specs.declared.alg.Alg.{Alg}
use Rattle.tpm_types.specs.Alg.{block_len}
use Rattle.tpm_buffer.specs.Commands.{command}
use Rattle.tpm_hmac.specs.Hashes.{digest}
use Rattle.tpm_model.specs.InStep.{CallerSession}
use Rattle.tpm_model.specs.Callers.{Seal, sealed, sealed_command, Waiting, waiting, with_nonce}
use Rattle.tpm_model.specs.Premises.{HasSpelling}

-- a sealed command: its bytes, and what waits for the reply
pub record Sent : Type 0 where
  pub waiting : Waiting
  pub bytes : List ℕ

-- A key that is longer than a block is kept as its digest, which HMAC takes in its place (RFC 2104, section 2).
abbrev pub hmac_key : Alg → List ℕ → List ℕ
hmac_key alg key = if nat_lt (block_len alg) (length key) then digest alg key else key

abbrev pub with_hmac_key : Waiting → Waiting
with_hmac_key w = record w { key = hmac_key w.caller.hash w.key }

abbrev pub sent : Seal → Sent
sent s = record { waiting = with_hmac_key (waiting s); bytes = sealed s }

-- The sealed command has a spelling: each value is one that its layout has room for. Its bytes spell it.
pub record IsSpelled (s : Seal) : Type 0 where
  pub fits : HasSpelling s
  pub spells : Spells command (sealed_command s) (sent s).bytes

-- ---- a reply

-- with this nonceTPM, where it was kept
abbrev pub caller_with : Waiting → List ℕ → Option CallerSession
caller_with w nonce = if w.keep then Some (with_nonce w.caller nonce) else None
