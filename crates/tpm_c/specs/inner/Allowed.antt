-- An entry of C's list, by itself.
use Rattle.std.specs.Prelude.{ℕ, Bool, List, ◌==◌, ◌&&◌, take, nat_eq}
use Rattle.std.specs.Cmp.Lexicographic.{pointwise}
use Rattle.tpm_types.specs.declared.alg.Alg.{Alg}
use Rattle.tpm_types.specs.Alg.{alg_number, digest_len}
use Rattle.tpm_c.specs.declared.allowed.TpmAllowed.{TpmAllowed}

-- An entry is for this register of the bank, and has this digest for it.
abbrev pub entry_names : Alg → (register : ℕ) → TpmAllowed → Bool
entry_names bank register e = (e.hash == alg_number bank) && (e.pcr == register)

abbrev pub entry_allows : Alg → (register : ℕ) → (of_bank : List ℕ) → TpmAllowed → Bool
entry_allows bank register of_bank e =
    entry_names bank register e && pointwise nat_eq (take (digest_len bank) e.digest) of_bank
