-- A list of digests by which registers may be extended, as C has it.
use Rattle.std.specs.Prelude.{ℕ, Bool, List, [], ◌∷◌, Option, Some, None, ◌==◌, take, option_map, if◌then◌else◌}
use Rattle.tpm_types.specs.declared.alg.Alg.{Alg}
use Rattle.tpm_types.specs.Alg.{alg_of, digest_len}
use Rattle.tpm_log.specs.Records.{no_action}
use Rattle.tpm_vouched.specs.declared.allowed.AllowedDigest.{AllowedDigest}
use Rattle.tpm_vouched.specs.Allowed.{allows, names}
use Rattle.tpm_c.specs.declared.allowed.TpmAllowed.{TpmAllowed}

-- the digest of an entry, where its hash has a bank
abbrev pub digest_of : TpmAllowed → Alg → AllowedDigest
digest_of e bank = record { register = e.pcr; digest = (bank, take (digest_len bank) e.digest) }

abbrev pub before : Option AllowedDigest → List AllowedDigest → List AllowedDigest
before (Some a) others = a ∷ others
before None others = others

-- the digests of the list
abbrev pub list_of : List TpmAllowed → List AllowedDigest
list_of [] = []
list_of (e ∷ es) = before (option_map (digest_of e) (alg_of e.hash)) (list_of es)

-- the number for a digest that is on the list, that isn't, and where the list names no such register
abbrev pub number_for : (allowed named : Bool) → ℕ
number_for allowed named = if allowed then 41 else (if named then 42 else 0)

-- of a record by which a register is extended in a bank, but for EV_NO_ACTION
abbrev pub allowed_number : Option Alg → List AllowedDigest → (register kind : ℕ) → (digest : List ℕ) → ℕ
allowed_number None list register kind digest = 18
allowed_number (Some bank) list register kind digest =
    if kind == no_action then 0 else number_for (allows list bank register digest) (names list bank register)
