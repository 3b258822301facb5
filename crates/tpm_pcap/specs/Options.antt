-- The options of an interface in a pcapng file (IETF draft-ietf-opsawg-pcapng, "Options" and "Interface Description
-- Block Options").
use Rattle.std.specs.Prelude.{ℕ, zero, suc, ◌+◌, ◌*◌, ◌/◌, ◌^◌, ◌-◌, ◌==◌, nat_lt, List, [], ◌∷◌, length, take, drop}
use Rattle.std.specs.Prelude.{Option, Some, None, is_some, Ok, Err, if◌then◌else◌}
use Rattle.std.specs.Int.{w16}
use Rattle.tpm_pcap.specs.declared.numbers.Order.{Order}
use Rattle.tpm_pcap.specs.Numbers.{Fields, ◌>>=◌, field}

-- if_tsresol: a negative power of 10, or of 2 where the highest bit is set. Nothing is known of one above 2^63.
unfoldable pub per_second_of : (resolution : ℕ) → ℕ
per_second_of resolution =
    if nat_lt resolution 20 then 10 ^ resolution
    else if nat_lt resolution 128 then 0
    else if nat_lt resolution 192 then 2 ^ (resolution - 128)
    else 0

-- An option is its code, how many bytes it has, and these, up to a multiple of four.
unfoldable pub option_in : Order → List ℕ → Fields (ℕ × ℕ)
option_in order options = do
  code ← field order w16 options
  size ← field order w16 code.1
  Ok ((code.0, size.0), size.1)

-- the value of the first option with this code, of those before opt_endofopt (0)
abbrev pub value_by : (sought : ℕ) → Fields (ℕ × ℕ) → (behind : List ℕ → Option (List ℕ)) → Option (List ℕ)
value_by sought (Err reason) behind = None
value_by sought (Ok option) behind =
    if option.0.0 == 0 then None
    else if option.0.0 == sought then Some (take option.0.1 option.1)
    else behind (drop ((option.0.1 + 3) / 4 * 4) option.1)

-- There are no more options than bytes.
abbrev pub value_from : (most : ℕ) → Order → (sought : ℕ) → List ℕ → Option (List ℕ)
value_from zero order sought options = None
value_from (suc most) order sought options =
    value_by sought (option_in order options) (λ behind. value_from most order sought behind)

abbrev pub value_in : Order → (sought : ℕ) → List ℕ → Option (List ℕ)
value_in order sought options = value_from (length options) order sought options

-- by if_tsresol, a million where there is none
abbrev pub resolution : Option (List ℕ) → ℕ
resolution None = 1000000
resolution (Some []) = 0
resolution (Some (byte ∷ bytes)) = per_second_of byte

-- How many units of its times a second has, by if_tsresol (9). With an if_tsoffset (14) nothing is known.
abbrev pub per_second_in : Order → List ℕ → ℕ
per_second_in order options =
    if is_some (value_in order 14 options) then 0 else resolution (value_in order 9 options)
