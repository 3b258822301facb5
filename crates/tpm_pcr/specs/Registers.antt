-- Platform configuration registers (Part 1, "Platform Configuration Registers (PCR)").
use Rattle.std.specs.Prelude.{ℕ, suc, ◌-◌, ◌/◌, ◌%◌, ◌^◌, Bool, ◌&&◌, nat_le, ◌==◌, List, [], ◌∷◌, ◌++◌, length, map}
use Rattle.std.specs.Prelude.{take, replicate, filter, flat_map, slice_index_or, if◌then◌else◌}
use Rattle.tpm_types.specs.declared.alg.Alg.{Alg}
use Rattle.tpm_types.specs.declared.tpms.Selection.{Selection}
use Rattle.tpm_types.specs.Alg.{all_algs, bank_place, alg_number, digest_len}
use Rattle.tpm_types.specs.Tpma.{mask}
use Rattle.tpm_types.specs.Tpms.{is_selected}
use Rattle.tpm_hmac.specs.Hashes.{digest}

-- ---- changes

-- what changes registers
pub data Change : Type 0 where
  -- All have their start values, and the update counter is 0.
  Restart : Change
  -- Register 0 shows the locality from which the platform was started, which a log tells.
  StartAt : (locality : ℕ) → Change
  -- A register becomes zeros.
  Reset : (register : ℕ) → Change
  -- A register is extended with digests, in each bank with those of the bank's hash.
  Extend : (register : ℕ) → (digests : List (Alg × List ℕ)) → Change

-- the digests of an event: each bank's hash of it, SHA-1 first, and then by rising number (Part 3, 22.3)
abbrev pub event_digests : List ℕ → List (Alg × List ℕ)
event_digests event = map (λ alg. (alg, digest alg event)) all_algs

-- ---- values

-- the registers of dynamic launch
abbrev pub is_dynamic : ℕ → Bool
is_dynamic q = nat_le 17 q && nat_le q 22

-- as many bytes as a digest of the bank's hash has
abbrev pub filled_with : ℕ → Alg → List ℕ
filled_with byte alg = replicate (digest_len alg) byte

abbrev pub zeros : Alg → List ℕ
zeros = filled_with 0

-- bytes 0xFF in a register of dynamic launch, and zeros in the others (this profile, after the PC Client Platform TPM
-- Profile)
abbrev pub start_value : Alg → ℕ → List ℕ
start_value alg q = if is_dynamic q then filled_with 0xFF alg else zeros alg

-- register 0 after a start from a locality: zeros, and the locality as the last byte
abbrev pub locality_value : ℕ → Alg → List ℕ
locality_value locality alg = replicate (digest_len alg - 1) 0 ++ locality ∷ []

-- new = H(old || digest), for each digest in turn (Part 1, "Extend of a PCR")
abbrev pub extended : Alg → List ℕ → List (List ℕ) → List ℕ
extended alg old [] = old
extended alg old (d ∷ ds) = extended alg (digest alg (old ++ d)) ds

abbrev pub is_of : Alg → Alg × List ℕ → Bool
is_of alg d = alg_number d.0 == alg_number alg

-- the digests of a bank's hash, in list order
abbrev pub digests_for : Alg → List (Alg × List ℕ) → List (List ℕ)
digests_for alg ds = map (λ d. d.1) (filter (is_of alg) ds)

-- what a change makes of a register's value in a bank
abbrev pub value_by : Alg → ℕ → Change → List ℕ → List ℕ
value_by alg q Restart old = start_value alg q
value_by alg q (StartAt locality) old = if q == 0 then locality_value locality alg else old
value_by alg q (Reset p) old = if p == q then zeros alg else old
value_by alg q (Extend p ds) old = if p == q then extended alg old (digests_for alg ds) else old

-- The value of a register in a bank: from its start value or zeros, extended with all digests since its last start or
-- reset.
abbrev pub register_value : List Change → Alg → ℕ → List ℕ
register_value [] alg q = start_value alg q
register_value (c ∷ cs) alg q = value_by alg q c (register_value cs alg q)

-- ---- the update counter (Part 1, "PCR Update Counter"; once a command, and for each register, in this profile)

-- what a change makes of their number: a reset counts, and an extend with one digest at least
abbrev pub updates_by : Change → ℕ → ℕ
updates_by Restart old = 0
updates_by (StartAt locality) old = old
updates_by (Reset q) old = suc old
updates_by (Extend q []) old = old
updates_by (Extend q (d ∷ ds)) old = suc old

-- how many changes that count there were since the last start
abbrev pub updates : List Change → ℕ
updates [] = 0
updates (c ∷ cs) = updates_by c (updates cs)

abbrev pub update_counter : List Change → ℕ
update_counter cs = updates cs % 2 ^ 32

-- ---- registers as they are held

abbrev pub all_registers : List ℕ
all_registers =
    0 ∷ 1 ∷ 2 ∷ 3 ∷ 4 ∷ 5 ∷ 6 ∷ 7 ∷ 8 ∷ 9 ∷ 10 ∷ 11 ∷ 12 ∷ 13 ∷ 14 ∷ 15 ∷ 16 ∷ 17 ∷ 18 ∷ 19 ∷ 20 ∷ 21 ∷ 22 ∷ 23 ∷ []

-- the values of all registers, by bank and register
unfoldable pub banks_of : (Alg → ℕ → List ℕ) → List (List (List ℕ))
banks_of value = map (λ alg. map (value alg) all_registers) all_algs

pub record Registers : Type 0 where
  pub banks : List (List (List ℕ))
  pub update_counter : ℕ

-- the registers after these changes, of which the newest is the first
abbrev pub registers_after : List Change → Registers
registers_after cs = record { banks = banks_of (register_value cs); update_counter = update_counter cs }

-- the value of a register in a bank
abbrev pub value_in : List (List (List ℕ)) → Alg → ℕ → List ℕ
value_in banks alg q = slice_index_or (slice_index_or banks (bank_place alg) []) q []

-- ---- selections (Part 2, 10.6.2; Part 3, 22.4)

-- the registers that an entry selects, rising
abbrev pub selected_by : Selection → List ℕ
selected_by s = filter (is_selected s.select) all_registers

-- the values that are selected: the entries in list order, in each rising by register
abbrev pub selected_values : (Alg → ℕ → List ℕ) → List Selection → List (List ℕ)
selected_values value sels = flat_map (λ s. map (value s.hash) (selected_by s)) sels

-- H of the selected values (Part 1, "Selecting Multiple PCR")
abbrev pub composite : Alg → (Alg → ℕ → List ℕ) → List Selection → List ℕ
composite alg value sels = digest alg (flat_map (λ v. v) (selected_values value sels))

-- how many values are read at once: as many as a list of digests has at most
abbrev pub most_read : ℕ
most_read = 8

abbrev pub values_read : (Alg → ℕ → List ℕ) → List Selection → List (List ℕ)
values_read value sels = take most_read (selected_values value sels)

-- the bytes in which the bits of these registers alone are set
abbrev pub select_of : List ℕ → List ℕ
select_of qs = map (λ byte. mask (map (λ q. q % 8) (filter (λ q. q / 8 == byte) qs))) (0 ∷ 1 ∷ 2 ∷ [])

-- each entry with its first registers, of so many in all
abbrev pub first_selected : ℕ → List Selection → List Selection
first_selected left [] = []
first_selected left (s ∷ sels) =
    record { hash = s.hash; select = select_of (take left (selected_by s)) }
    ∷ first_selected (left - length (selected_by s)) sels

-- what was read of a selection: each of its entries, in which the bits of the registers that were not read are clear
abbrev pub selections_read : List Selection → List Selection
selections_read = first_selected most_read
