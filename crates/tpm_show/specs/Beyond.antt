-- What a profile of more commands or of more banks would not refuse (this profile).
use Rattle.std.specs.Prelude.{ℕ, ◌%◌, ◌==◌, ◌&&◌, ◌||◌, nat_lt, Bool, List, drop}
use Rattle.tpm_pcap.specs.Numbers.{number2, number4}
use Rattle.tpm_wire.specs.declared.refusal.Refusal.{Refusal}
use Rattle.tpm_wire.specs.ResponseCodes.{rc_command_code}
use Rattle.tpm_show.specs.declared.capture_lines.Direction.TheVariants.{Command, Reply}
use Rattle.tpm_show.specs.declared.capture_lines.Direction.{Direction}

-- ---- the code alone

-- TPM_RC_COMMAND_CODE stands at the code, behind the tag and the size (Part 1, "Command/Response Structure").
abbrev pub is_of_code : Refusal → Bool
is_of_code refusal = refusal.code == rc_command_code && refusal.at == 6

-- ---- a bank

-- TPM_RC_HASH of any parameter (Part 2, 6.6.3)
abbrev pub is_of_hash : (code : ℕ) → Bool
is_of_hash code = code % 256 == 0xc3

-- the hashes that are no banks here: SHA-512, SM3 and the three of SHA-3 (Part 2, 6.3, TPM_ALG_ID)
abbrev pub is_other_hash : ℕ → Bool
is_other_hash n = n == 0x000d || (n == 0x0012 || (n == 0x0027 || (n == 0x0028 || n == 0x0029)))

-- ---- how many banks

-- TPM_RC_SIZE of a list of banks, which nothing but its count has: parameter 1 of TPM2_PCR_Extend and of TPM2_PCR_Read,
-- and 2 of TPM2_PolicyPCR; 1 of TPM2_PCR_Event's reply, and 2 of TPM2_PCR_Read's (Part 3, 22 and 23.7)
abbrev pub is_of_count : Direction → (command code : ℕ) → Bool
is_of_count Command command code =
    ((command == 0x182 || command == 0x17e) && code == 0x1d5) || (command == 0x17f && code == 0x2d5)
is_of_count Reply command code =
    (command == 0x13c && code == 0x1d5) || (command == 0x17e && code == 0x2d5)

-- more than the three of this profile, and no more than Part 2 has hashes (6.3)
abbrev pub is_more_banks : ℕ → Bool
is_more_banks n = nat_lt 3 n && nat_lt n 9

-- ---- any of these

-- The fault in a command of this code, or in the reply to it, is one that a larger profile would not have.
unfoldable pub is_beyond : Direction → (command : ℕ) → Refusal → List ℕ → Bool
is_beyond direction command refusal bytes = is_of_code refusal
    || ((is_of_hash refusal.code && is_other_hash (number2 (drop refusal.at bytes) 0))
    || (is_of_count direction command refusal.code && is_more_banks (number4 (drop refusal.at bytes) 0)))
