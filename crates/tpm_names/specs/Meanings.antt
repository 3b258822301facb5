-- Tables of what response codes say (this profile).
use Rattle.std.specs.Prelude.{ℕ, ◌==◌, Bool, List, Option, find, map}
use Rattle.std.specs.Char.{to_ascii_lowercase}
use Rattle.std.specs.Str.{bytes_eq}
use Rattle.std.specs.Borrow.{Bor}
use Rattle.tpm_names.specs.declared.meaning.Meaning.{Meaning as RustMeaning}

-- a code, its name behind TPM_RC_ or TSS2_BASE_RC_, and what it says; or the number of a layer, its
-- name between TSS2_ and _RC_LAYER, and what it is
pub record Meaning : Type 0 where
  pub number : ℕ
  pub name : List ℕ
  pub words : List ℕ

abbrev pub means : ℕ → List ℕ → List ℕ → Meaning
means number name words = record { number = number; name = name; words = words }

abbrev pub meaning_as : RustMeaning → Meaning
meaning_as m = means m.number m.name.now m.words.now

-- a row of a table, and the tables that the code has
abbrev pub row_as : ℕ × Bor (List ℕ) × Bor (List ℕ) → Meaning
row_as row = means row.0 row.1.now row.2.now

abbrev pub table_as : List (ℕ × record { now : List ℕ } × record { now : List ℕ }) → List Meaning
table_as table = map (λ row. means row.0 row.1.now row.2.now) table

-- two words, in any letter case
abbrev pub same_word : List ℕ → List ℕ → Bool
same_word word other = bytes_eq (map to_ascii_lowercase word) (map to_ascii_lowercase other)

-- what a table has under a name, in any letter case
unfoldable pub meaning_named : List Meaning → List ℕ → Option Meaning
meaning_named table name = find (λ m. same_word m.name name) table

unfoldable pub meaning_in : List Meaning → ℕ → Option Meaning
meaning_in table number = find (λ m. m.number == number) table
