-- What the array of all banks holds, and what a change makes of it.
use Rattle.std.specs.Prelude.{◌≡◌, ℕ, ◌<◌, ◌-◌, ◌==◌, List, [], ◌∷◌, ◌++◌, replicate, if◌then◌else◌}
use Rattle.tpm_types.specs.declared.alg.Alg.{Alg}
use Rattle.tpm_types.specs.Alg.{all_algs, bank_place, digest_len}
use Rattle.tpm_pcr.specs.Registers.{Change, value_by}
use Rattle.tpm_pcr.specs.Banks.{registers, bytes_of, value_at}

-- how many bytes all banks have
abbrev pub all_bytes : ℕ
all_bytes = bytes_of all_algs

-- these values, but for one
abbrev pub with_value : Alg → ℕ → List ℕ → (Alg → ℕ → List ℕ) → Alg → ℕ → List ℕ
with_value alg p value old a q = if bank_place alg == bank_place a then (if p == q then value else old a q) else old a q

-- these values, but for one register in each bank
abbrev pub with_values : ℕ → (Alg → List ℕ) → (Alg → ℕ → List ℕ) → Alg → ℕ → List ℕ
with_values p value old a q = if p == q then value a else old a q

-- as many bytes as a digest has, all the same but for the last
abbrev pub filled_but_last : (byte last : ℕ) → Alg → List ℕ
filled_but_last byte last alg = replicate (digest_len alg - 1) byte ++ last ∷ []

-- The bytes hold these values.
abbrev pub Holds : List ℕ → (Alg → ℕ → List ℕ) → Type 0
Holds bytes value = (alg : Alg) (q : ℕ) → q < registers → value_at bytes alg q ≡ value alg q

-- what each register of these bytes becomes by a change
abbrev pub changed : Change → List ℕ → Alg → ℕ → List ℕ
changed c bytes alg q = value_by alg q c (value_at bytes alg q)
