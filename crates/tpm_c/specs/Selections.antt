-- What C is told of registers by their text.
use Rattle.std.specs.Prelude.{◌≡◌, ◌⊎◌, ℕ, List, length, Some}
use Rattle.std.specs.Str.{IsUtf8}
use Rattle.tpm_wire.specs.Spelling.{spelling}
use Rattle.tpm_types.specs.declared.tpms.Selection.{Selection}
use Rattle.tpm_types.specs.Tpml.{selections}
use Rattle.tpm_names.specs.Selections.{AreSelections}
use Rattle.tpm_c.specs.Calls.{Call}
use Rattle.tpm_c.specs.Written.{in_room, IsIn}

-- The registers that the text lists were written, as they are spelled, where there is room; or it is no such text.
abbrev pub IsSelectionTold : (text : List ℕ) → Call (List ℕ) → Type 0
IsSelectionTold text call =
    ((listed : List Selection) × AreSelections text listed
    × IsIn (in_room (length call.old) (Some (spelling selections listed))) call.old call.new call.answer)
    ⊎ (((listed : List Selection) → IsUtf8 text → AreSelections text listed → ⊥)
    × (call.answer ≡ 0)
    × (call.new ≡ call.old))
