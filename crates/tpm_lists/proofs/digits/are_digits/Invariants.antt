use Rattle.std.proofs.Common.{◌≡◌, take}
use Rattle.std.specs.List.{list_all}
use Rattle.hex.specs.Hex.{is_hex_digit}
use Rattle.tpm_lists.proofs.digits.are_digits.Given as goal

-- the digits so far
abbrev pub invariant-loop-byte : goal.invariant-loop-byte
invariant-loop-byte l = l.are ≡ list_all is_hex_digit (take l.byte-index l.text)
