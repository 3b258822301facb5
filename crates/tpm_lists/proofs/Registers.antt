-- Registers by their numbers in decimal.
use Rattle.std.proofs.Common.{◌≡◌, ℕ, ◌<◌, List, [], Option, Some, None, position, sym}
use Rattle.std.proofs.lemmas.List.Quantifiers.{position-Some}
use Rattle.std.specs.Prelude.{IfSome}
use Rattle.std.specs.Str.{bytes_eq}
use Rattle.std.specs.Fmt.{digits}
use Rattle.tpm_output.proofs.Tables.{position-map}
use Rattle.tpm_lists.specs.declared.stated.TheConstants.{REGISTERS}
use Rattle.tpm_lists.specs.ListLines.{register_named, register_names}

-- the table has the numbers in decimal
pub named-is : (word : List ℕ) → position (λ name. bytes_eq name.now word) REGISTERS ≡ register_named word
unfolding digits
named-is word = position-map REGISTERS (λ name. name.now) (λ name. bytes_eq name word)

-- what is at a place in the table is the number of a register
pub named-below : (o : Option ℕ) (word : List ℕ) → o ≡ register_named word → IfSome o (λ number. number < 24)
named-below None word e = tt
named-below (Some number) word e = (position-Some (λ name. bytes_eq name word) register_names number [] (sym e)).0
