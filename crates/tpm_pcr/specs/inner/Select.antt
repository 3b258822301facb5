-- What is read of a selection, register by register (Part 3, TPM2_PCR_Read).
use Rattle.std.specs.Prelude.{ℕ, ◌+◌, ◌-◌, ◌*◌, ◌%◌, List, [], ◌∷◌, map, take, filter}
use Rattle.tpm_types.specs.Tpma.{mask}
use Rattle.tpm_types.specs.Tpms.{is_selected}
use Rattle.tpm_types.specs.declared.tpms.Selection.{Selection}
use Rattle.tpm_pcr.specs.Registers.{most_read, selected_by}

-- the registers of a byte of a selection
abbrev pub registers_of : ℕ → List ℕ
registers_of byte = map (λ bit. 8 * byte + bit) (0 ∷ 1 ∷ 2 ∷ 3 ∷ 4 ∷ 5 ∷ 6 ∷ 7 ∷ [])

-- those of these registers that are selected, as many as there is still room for
abbrev pub chosen : (values : ℕ) → List ℕ → List ℕ → List ℕ
chosen values select qs = take (most_read - values) (filter (is_selected select) qs)

-- the byte in which the bits of these registers are set
abbrev pub bits_of : List ℕ → ℕ
bits_of qs = mask (map (λ q. q % 8) qs)

-- the first registers of an entry, as many as there is still room for
abbrev pub first_of : (values : ℕ) → Selection → List ℕ
first_of values s = take (most_read - values) (selected_by s)
