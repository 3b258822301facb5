-- Handles by the names that Part 2 gives them, and what is told of a list of handles (this profile).
use Rattle.std.specs.Prelude.{ℕ, ◌+◌, List, [], ◌∷◌, ◌++◌, codes, map, Option, Some, None}
use Rattle.std.specs.Option.{option_or}
use Rattle.std.specs.Int.{to_be_bytes, w32}
use Rattle.tpm_types.specs.Handles.{kind_of}
use Rattle.tpm_output.specs.Named.{named_in, table_as}
use Rattle.tpm_show.specs.declared.handle_names.TheConstants.{KINDS, PERMANENT}
use Rattle.tpm_show.specs.declared.piece.How.TheVariants as how
use Rattle.tpm_show.specs.Pieces.{Value, Word, Number, Bytes, Null, Piece, Says, InLine, asked_told, line_end}
use Rattle.tpm_show.specs.Pieces.{list_told, words}

-- ---- names

-- of a permanent handle its own name (TPM_RH, 7.4), and else that of its kind, by its most significant byte (TPM_HT,
-- 7.2)
unfoldable pub handle_named : ℕ → Option (List ℕ)
handle_named handle = option_or (named_in (table_as PERMANENT) handle) (named_in (table_as KINDS) (kind_of handle))

-- ---- what is told of handles

-- In a line it has its number, and its name.
unfoldable pub handle_told : ℕ → ℕ → List Piece
handle_told i handle = words (codes "handle") ∷ InLine how.Behind (Number i)
    ∷ Says how.Behind None (Bytes (to_be_bytes w32 handle))
    ∷ (asked_told (handle_named handle) ++ line_end ∷ [])

abbrev pub handles_from : ℕ → List ℕ → List Piece
handles_from i [] = []
handles_from i (handle ∷ handles) = handle_told i handle ++ handles_from (i + 1) handles

-- A handle of no kind of Part 2 has none.
abbrev pub name_or_null : Option (List ℕ) → Value
name_or_null None = Null
name_or_null (Some name) = Word name

abbrev pub handle_name : ℕ → Piece
handle_name handle = Says how.Nowhere None (name_or_null (handle_named handle))

-- the handles and their names, in the same order
unfoldable pub handles_told : List ℕ → List Piece
handles_told handles =
    list_told (codes "handles") (handles_from 1 handles)
    ++ list_told (codes "handle_names") (map handle_name handles)
