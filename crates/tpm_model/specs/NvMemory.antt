-- What NV memory has (Part 1, "NV Memory").
use Rattle.std.specs.Prelude.{ℕ, List, [], Option}
use Rattle.tpm_types.specs.declared.tpms.NvPublic.{NvPublic}

-- an index that is defined
pub record Counter : Type 0 where
  -- its public area, with the attributes as they are now
  pub public : NvPublic
  -- without trailing zeros
  pub auth : List ℕ
  -- its value, where it was incremented since its definition
  pub value : Option ℕ

pub record NvMemory : Type 0 where
  -- those that are defined, in the order of their definitions
  pub counters : List Counter
  -- the greatest of the number that made the device and of all values that increments gave
  pub greatest : ℕ

-- that of a new device, of which no counter has had a greater value than this
abbrev pub new_nv : (greatest : ℕ) → NvMemory
new_nv greatest = record { counters = []; greatest = greatest }
