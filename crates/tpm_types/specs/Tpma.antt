-- Attributes: numbers of bits (Part 2, 8.4 and 13.4).
use Rattle.std.specs.Prelude.{ℕ, ◌+◌, ◌^◌, ◌/◌, ◌%◌, Bool, not, bit_and, bit_or, ◌==◌, List, [], ◌∷◌}
use Rattle.tpm_wire.specs.Buffers.{Layout, number_in}
use Rattle.tpm_wire.specs.ResponseCodes.{rc_reserved_bits}

-- the number in which these bits are set
abbrev pub mask : List ℕ → ℕ
mask [] = 0
mask (bit ∷ bits) = 2 ^ bit + mask bits

-- any of these bits is set
abbrev pub any_set : List ℕ → ℕ → Bool
any_set bits n = not (bit_and n (mask bits) == 0)

abbrev pub is_set : ℕ → ℕ → Bool
is_set bit = any_set (bit ∷ [])

abbrev pub with_set : ℕ → ℕ → ℕ
with_set bit n = bit_or n (mask (bit ∷ []))

-- ---- TPMA_SESSION (8.4)

abbrev pub is_session_attrs : ℕ → Bool
is_session_attrs n = not (any_set (3 ∷ 4 ∷ []) n)

unfoldable pub session_attrs : Layout ℕ
session_attrs = number_in 1 is_session_attrs rc_reserved_bits

-- continueSession
abbrev pub continues : ℕ → Bool
continues = is_set 0

-- auditExclusive, auditReset, decrypt, encrypt or audit
abbrev pub audits_or_encrypts : ℕ → Bool
audits_or_encrypts = any_set (1 ∷ 2 ∷ 5 ∷ 6 ∷ 7 ∷ [])

-- ---- TPMA_NV (13.4)

abbrev pub is_nv_attrs : ℕ → Bool
is_nv_attrs n = not (any_set (8 ∷ 9 ∷ 20 ∷ 21 ∷ 22 ∷ 23 ∷ 24 ∷ []) n)

unfoldable pub nv_attrs : Layout ℕ
nv_attrs = number_in 4 is_nv_attrs rc_reserved_bits

-- TPM_NT, bits 7 to 4: the kind of the index
abbrev pub nv_type : ℕ → ℕ
nv_type n = n / 2 ^ 4 % 2 ^ 4

-- TPM_NT_COUNTER
abbrev pub is_counter : ℕ → Bool
is_counter n = nv_type n == 1

abbrev pub owner_writes : ℕ → Bool
owner_writes = is_set 1

abbrev pub auth_writes : ℕ → Bool
auth_writes = is_set 2

abbrev pub policy_writes : ℕ → Bool
policy_writes = is_set 3

abbrev pub owner_reads : ℕ → Bool
owner_reads = is_set 17

abbrev pub auth_reads : ℕ → Bool
auth_reads = is_set 18

abbrev pub policy_reads : ℕ → Bool
policy_reads = is_set 19

-- failed authorizations of the index don't count towards a lockout
abbrev pub no_da : ℕ → Bool
no_da = is_set 25

-- the index has a value
abbrev pub is_written : ℕ → Bool
is_written = is_set 29

abbrev pub with_written : ℕ → ℕ
with_written = with_set 29

-- PPWRITE, OWNERWRITE, AUTHWRITE or POLICYWRITE
abbrev pub is_writable : ℕ → Bool
is_writable = any_set (0 ∷ 1 ∷ 2 ∷ 3 ∷ [])

-- PPREAD, OWNERREAD, AUTHREAD or POLICYREAD
abbrev pub is_readable : ℕ → Bool
is_readable = any_set (16 ∷ 17 ∷ 18 ∷ 19 ∷ [])

-- what a definition may not set: POLICY_DELETE, WRITELOCKED, ORDERLY, CLEAR_STCLEAR, READLOCKED, WRITTEN,
-- PLATFORMCREATE
abbrev pub is_undefinable : ℕ → Bool
is_undefinable = any_set (10 ∷ 11 ∷ 26 ∷ 27 ∷ 28 ∷ 29 ∷ 30 ∷ [])
