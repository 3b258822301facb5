-- A table of kinds: the name of each, and what it says.
use Rattle.std.specs.Borrow.{Bor}
use Rattle.std.specs.Prelude.{ℕ, List, Option, find}
use Rattle.std.specs.Str.{str_eq_ignore_ascii_case}

abbrev pub as_row : Bor (List ℕ) × Bor (List ℕ) → List ℕ × List ℕ
as_row k = (k.0.now, k.1.now)

-- the first that has the name, in any letter case
unfoldable pub row_named : List (List ℕ × List ℕ) → (name : List ℕ) → Option (List ℕ × List ℕ)
row_named rows name = find (λ row. str_eq_ignore_ascii_case row.0 name) rows
