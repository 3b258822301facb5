-- Numbers in a packet, and the fields of a file.
use Rattle.std.specs.Prelude.{ℕ, ◌+◌, ◌*◌, nat_lt, List, length, take, drop, slice_index, Result, Ok, Err}
use Rattle.std.specs.Prelude.{if◌then◌else◌}
use Rattle.std.specs.Int.{Width, byte_len, from_be_bytes, from_le_bytes}
use Rattle.tpm_pcap.specs.declared.entry.Reason.TheVariants.{CutShort}
use Rattle.tpm_pcap.specs.declared.entry.Reason.{Reason}
use Rattle.tpm_pcap.specs.declared.numbers.Order.TheVariants.{Big, Little}
use Rattle.tpm_pcap.specs.declared.numbers.Order.{Order}

-- ---- the most significant byte first, as in a packet (RFC 791, appendix B); past the end a byte is 0

abbrev pub number2 : List ℕ → ℕ → ℕ
number2 bytes at = slice_index bytes at * 256 + slice_index bytes (at + 1)

abbrev pub number4 : List ℕ → ℕ → ℕ
number4 bytes at = number2 bytes at * 65536 + number2 bytes (at + 2)

-- ---- fields, one behind the other: a field and the bytes behind it, or why it is not told

abbrev pub Fields : Type 0 → Type 0
Fields A = Result (A × List ℕ) Reason

infixl 10 ◌>>=◌
abbrev pub ◌>>=◌ : {A B : Type 0} → Result A Reason → (A → Result B Reason) → Result B Reason
(Ok x) >>= f = f x
(Err reason) >>= f = Err reason

unfoldable pub cut : (count : ℕ) → List ℕ → Fields (List ℕ)
cut count bytes = if nat_lt (length bytes) count then Err CutShort else Ok (take count bytes, drop count bytes)

-- in the order of the machine that wrote the file
abbrev pub number : Order → Width → List ℕ → ℕ
number Big w bytes = from_be_bytes w bytes
number Little w bytes = from_le_bytes w bytes

unfoldable pub field : Order → Width → List ℕ → Fields ℕ
field order w bytes = do
  front ← cut (byte_len w) bytes
  Ok (number order w front.0, front.1)
