-- What a counter was defined with, and its value, as they are kept.
use Rattle.std.specs.Prelude.{ℕ, ◌==◌, List, Option, Some, None, if◌then◌else◌}
use Rattle.std.specs.Int.{from_be_bytes, w64}
use Rattle.tpm_types.specs.declared.tpms.NvPublic.{NvPublic}
use Rattle.tpm_model.specs.Counters.{Counter}

-- What TPM2_NV_DefineSpace gives an index (Part 3, 31.3): its public area, TPMS_NV_PUBLIC (Part 2, 13.5), with the
-- attributes as they are now, and its authorization value.
pub record Definition : Type 0 where
  pub public : NvPublic
  -- without trailing zeros
  pub auth : List ℕ

-- the same of a counter, whatever its value is
abbrev pub definition_of : Counter → Definition
definition_of c = record { public = c.public; auth = c.auth }

-- The value of a counter (Part 1, "NV Counters"): an increment gives none that is 0, so 0 is that of a counter that was
-- never written, which has none.
abbrev pub value_of : ℕ → Option ℕ
value_of n = if n == 0 then None else Some n

-- the value that these 8 bytes are kept for, most significant byte first: all are zero where there is none
abbrev pub value_in : List ℕ → Option ℕ
value_in bytes = value_of (from_be_bytes w64 bytes)
