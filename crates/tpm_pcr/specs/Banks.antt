-- The banks of registers in one array.
use Rattle.std.specs.Prelude.{ℕ, ◌+◌, ◌*◌, List, map, sum, take, drop}
use Rattle.tpm_types.specs.declared.alg.Alg.{Alg}
use Rattle.tpm_types.specs.Alg.{all_algs, bank_place, digest_len}

-- how many registers a bank has
abbrev pub registers : ℕ
registers = 24

-- how many bytes the registers of these banks have
abbrev pub bytes_of : List Alg → ℕ
bytes_of algs = registers * sum (map digest_len algs)

-- where a bank begins: behind those before it
abbrev pub bank_start : Alg → ℕ
bank_start alg = bytes_of (take (bank_place alg) all_algs)

-- where a register of a bank begins
abbrev pub offset_of : Alg → ℕ → ℕ
offset_of alg q = bank_start alg + digest_len alg * q

-- the value of a register in a bank
unfoldable pub value_at : List ℕ → Alg → ℕ → List ℕ
value_at bytes alg q = take (digest_len alg) (drop (offset_of alg q) bytes)
