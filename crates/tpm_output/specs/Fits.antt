-- What a thing has that the code can say: bytes of 8 bits, and a number of 64.
use Rattle.std.specs.Prelude.{ℕ, ◌^◌, Bool, true, List, nat_lt}
use Rattle.std.specs.List.{list_all}
use Rattle.tpm_output.specs.Marks.{Value, Number, Bytes, Guid, Ascii, Utf16, PathName, Mark, Says, Part}

abbrev pub are_bytes : List ℕ → Bool
are_bytes = list_all (λ byte. nat_lt byte 256)

abbrev pub value_fits : Value → Bool
value_fits (Number n) = nat_lt n (2 ^ 64)
value_fits (Bytes bytes) = are_bytes bytes
value_fits (Guid guid) = are_bytes guid
value_fits (Ascii text) = are_bytes text
value_fits (Utf16 text) = are_bytes text
value_fits (PathName name) = are_bytes name
value_fits _ = true

abbrev pub mark_fits : Mark → Bool
mark_fits (Says name v) = value_fits v
mark_fits (Part v) = value_fits v
mark_fits _ = true
