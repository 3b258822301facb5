-- The values of hexadecimal digits.
use Rattle.std.specs.Prelude.{◌≡◌, ◌<◌, ℕ, List, slice_index, unwrap_or}
use Rattle.hex.specs.Hex.{hex_digit_value}

-- of the first digits, so many of them
abbrev pub AreValues : (digits values : List ℕ) (n : ℕ) → Type 0
AreValues digits values n =
    (k : ℕ) → k < n → slice_index values k ≡ unwrap_or (hex_digit_value (slice_index digits k)) 0
