-- Numbers in hexadecimal digits.
use Rattle.std.specs.Prelude.{ℕ, ◌-◌, false, List, ◌++◌, length, replicate}
use Rattle.std.specs.Fmt.{digits}

abbrev pub in_hex : ℕ → List ℕ
in_hex = digits 16 false

-- a number in hexadecimal digits, lower case, at least so many of them
abbrev pub hexadecimal : ℕ → ℕ → List ℕ
hexadecimal least n = replicate (least - length (digits 16 false n)) 48 ++ digits 16 false n
