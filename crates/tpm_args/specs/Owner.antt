-- An owner's authorization value by its text (this profile).
use Rattle.std.specs.Prelude.{◌≡◌, ◌≤◌, ℕ, List, Option, Some, length}
use Rattle.std.specs.Result.{result_ok}
use Rattle.hex.specs.Hex.{decode_of}
use Rattle.tpm_types.specs.Limits.{digest_bytes}

-- the bytes of hexadecimal digits, or none for any other text
abbrev pub bytes_in : List ℕ → Option (List ℕ)
bytes_in text = result_ok (decode_of text)

-- an owner's authorization value by its hexadecimal digits, of no more bytes than a digest has
abbrev pub IsOwner : List ℕ → List ℕ → Type 0
IsOwner text owner = (bytes_in text ≡ Some owner) × (length owner ≤ digest_bytes)
