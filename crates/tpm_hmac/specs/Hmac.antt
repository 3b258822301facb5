-- HMAC (RFC 2104) and KDFa (Part 1, "KDFa()": SP 800-108 in counter mode, with HMAC).
use Rattle.std.specs.Prelude.{ℕ, zero, suc, ◌+◌, ◌-◌, ◌*◌, ◌/◌, nat_lt, List, [], ◌∷◌, ◌++◌, length, map, take}
use Rattle.std.specs.Prelude.{replicate, bit_xor, if◌then◌else◌}
use Rattle.std.specs.Int.{w32, to_be_bytes}
use Rattle.tpm_types.specs.declared.alg.Alg.{Alg}
use Rattle.tpm_types.specs.Alg.{block_len, digest_len}
use Rattle.tpm_hmac.specs.Hashes.{digest}

-- ---- HMAC (RFC 2104, section 2)

-- zeros after the bytes, up to n
abbrev pub filled : ℕ → List ℕ → List ℕ
filled n bytes = bytes ++ replicate (n - length bytes) 0

-- K: the key, or its digest where it is longer than a block, and zeros up to a block
unfoldable pub block_key : Alg → List ℕ → List ℕ
block_key alg key = filled (block_len alg) (if nat_lt (block_len alg) (length key) then digest alg key else key)

-- each byte XOR this one
abbrev pub xored : ℕ → List ℕ → List ℕ
xored with bytes = map (λ b. bit_xor b with) bytes

-- H(K XOR opad, H(K XOR ipad, text))
unfoldable pub hmac : Alg → List ℕ → List ℕ → List ℕ
hmac alg key text = digest alg (xored 0x5C (block_key alg key) ++ digest alg (xored 0x36 (block_key alg key) ++ text))

-- ---- KDFa

-- what follows the counter in the text of each block: Label || 00 || ContextU || ContextV || L
abbrev pub kdfa_text : List ℕ → List ℕ → List ℕ → ℕ → List ℕ
kdfa_text label context_u context_v bits = label ++ (0 ∷ (context_u ++ (context_v ++ to_be_bytes w32 bits)))

-- K(i), for i from 1
abbrev pub kdfa_block : Alg → List ℕ → List ℕ → ℕ → List ℕ
kdfa_block alg key text i = hmac alg key (to_be_bytes w32 i ++ text)

-- K(1) || .. || K(n)
unfoldable pub kdfa_blocks : Alg → List ℕ → List ℕ → ℕ → List ℕ
kdfa_blocks alg key text zero = []
kdfa_blocks alg key text (suc n) = kdfa_blocks alg key text n ++ kdfa_block alg key text (suc n)

-- how many blocks make n bytes
abbrev pub block_count : Alg → ℕ → ℕ
block_count alg n = (n + digest_len alg - 1) / digest_len alg

-- n bytes: as many blocks as they take, without what is left of the last
unfoldable pub kdfa : Alg → List ℕ → List ℕ → List ℕ → List ℕ → ℕ → List ℕ
kdfa alg key label context_u context_v n =
    take n (kdfa_blocks alg key (kdfa_text label context_u context_v (8 * n)) (block_count alg n))
