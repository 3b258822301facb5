-- The hash algorithms of this profile: TPMI_ALG_HASH (Part 2, 9.27, with the numbers of 6.3).
use Rattle.std.specs.Prelude.{ℕ, Option, Some, None, ◌==◌, if◌then◌else◌, List, [], ◌∷◌, codes}
use Rattle.tpm_wire.specs.Buffers.{Layout}
use Rattle.tpm_wire.specs.Layout.Form.{number}
use Rattle.tpm_wire.specs.ResponseCodes.{rc_hash}
use Rattle.tpm_types.specs.declared.alg.Alg.TheVariants.{Sha1, Sha256, Sha384}
use Rattle.tpm_types.specs.declared.alg.Alg.{Alg}

abbrev pub alg_number : Alg → ℕ
alg_number Sha1 = 0x0004
alg_number Sha256 = 0x000B
alg_number Sha384 = 0x000C

abbrev pub alg_of : ℕ → Option Alg
alg_of n =
    if n == 0x0004 then Some Sha1 else if n == 0x000B then Some Sha256 else if n == 0x000C then Some Sha384 else None

-- its name, and that of its bank, as tpm2-tools spell it (this profile)
abbrev pub alg_name : Alg → List ℕ
alg_name Sha1 = codes "sha1"
alg_name Sha256 = codes "sha256"
alg_name Sha384 = codes "sha384"

-- how many bytes its digests have
abbrev pub digest_len : Alg → ℕ
digest_len Sha1 = 20
digest_len Sha256 = 32
digest_len Sha384 = 48

-- how many bytes it takes at a time, which are those of an HMAC's padded key (FIPS 180-4, section 1; FIPS 198-1,
-- section 3)
abbrev pub block_len : Alg → ℕ
block_len Sha1 = 64
block_len Sha256 = 64
block_len Sha384 = 128

-- the hash algorithms in the order of their numbers, one for each bank
abbrev pub all_algs : List Alg
all_algs = Sha1 ∷ Sha256 ∷ Sha384 ∷ []

-- the place of its bank among them
abbrev pub bank_place : Alg → ℕ
bank_place Sha1 = 0
bank_place Sha256 = 1
bank_place Sha384 = 2

unfoldable pub hash : Layout Alg
hash = number 2 (λ left. alg_of) alg_number rc_hash
