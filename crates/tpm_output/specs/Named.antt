-- Tables of names (this profile).
use Rattle.std.specs.Prelude.{ℕ, ◌==◌, List, Option, find, map, option_map}
use Rattle.std.specs.Borrow.{Bor}

-- a number, and its name
pub record Named : Type 0 where
  pub number : ℕ
  pub name : List ℕ

abbrev pub named : ℕ → List ℕ → Named
named number name = record { number = number; name = name }

-- a row of a table, and the tables that the code has
abbrev pub row_as : ℕ × Bor (List ℕ) → Named
row_as row = named row.0 row.1.now

abbrev pub table_as : List (ℕ × record { now : List ℕ }) → List Named
table_as table = map (λ row. named row.0 row.1.now) table

-- the name that a table has for a number
unfoldable pub named_in : List Named → ℕ → Option (List ℕ)
named_in table number = option_map (λ n. n.name) (find (λ n. n.number == number) table)
