-- What C is told that a quote vouches for.
use Rattle.std.specs.Prelude.{ℕ, List, [], ◌∷◌, Option, Some, None, Result, Ok, Err}
use Rattle.tpm_wire.specs.declared.refusal.Refusal.{Refusal}
use Rattle.tpm_types.specs.declared.alg.Alg.{Alg}
use Rattle.tpm_types.specs.declared.tpms.Selection.{Selection}
use Rattle.tpm_event_data.specs.Events.{Shown}
use Rattle.tpm_vouched.specs.declared.record.VouchedPart.{VouchedPart}
use Rattle.tpm_vouched.specs.Record.{vouched}
use Rattle.tpm_c.specs.Measured.{part_number}

-- the number of the part that is vouched for in the first bank, or 0 where nothing is
abbrev pub first_number : List VouchedPart → ℕ
first_number [] = 0
first_number (v ∷ vs) = part_number v.part

-- of a record with one digest, where its hash has a bank and the quote's selections are some
abbrev pub vouched_number : Option Alg → Result (List Selection) Refusal → Shown → ℕ
vouched_number None quoted e = 18
vouched_number (Some bank) (Err refusal) e = 22
vouched_number (Some bank) (Ok quoted) e = first_number (vouched quoted e)
