-- Numbers by their digits (this profile).
use Rattle.std.specs.Prelude.{◌≡◌, ◌<◌, ◌^◌, ℕ, List}
use Rattle.std.specs.Str.Parse.{IsNumeral, digits_value}

-- a number below a bound by its digits in a radix, one or more, with no sign
abbrev pub IsNumber : ℕ → ℕ → List ℕ → ℕ → Type 0
IsNumber radix bound text number = IsNumeral radix text × (number ≡ digits_value radix text) × (number < bound)

-- one below 2^64 by its decimal digits
abbrev pub IsDecimal : List ℕ → ℕ → Type 0
IsDecimal text number = IsNumber 10 (2 ^ 64) text number

-- one below 2^32 by its decimal digits
abbrev pub IsShortDecimal : List ℕ → ℕ → Type 0
IsShortDecimal text number = IsNumber 10 (2 ^ 32) text number

-- the number of a port by its decimal digits
abbrev pub IsPort : List ℕ → ℕ → Type 0
IsPort text port = IsNumber 10 (2 ^ 16) text port

-- one below 2^32 by its hexadecimal digits
abbrev pub IsHexadecimal : List ℕ → ℕ → Type 0
IsHexadecimal text number = IsNumber 16 (2 ^ 32) text number
