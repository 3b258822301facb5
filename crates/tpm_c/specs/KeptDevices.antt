-- A device that is kept: its NV memory's bytes in memory of C's, and the device that is made of them there.
use Rattle.std.specs.Prelude.{◌≡◌, ◌⊎◌, ◌<◌, ◌≤◌, ℕ, Bool, true, false, not, ◌&&◌, List, [], ◌∷◌, ◌++◌, length}
use Rattle.std.specs.Prelude.{nat_le, replicate, drop}
use Rattle.std.specs.Prelude.{Option, Some, None, option_map, slice_get, is_ok, if◌then◌else◌}
use base.Fraction.{full_share}
use base.Fml.{Fml, ftrue, fex}
use denote.RawPtr.{Ptr, lies_at}
use Rattle.tpm_wire.specs.declared.refusal.Refusal.{Refusal}
use Rattle.tpm_wire.specs.Path.{Spells, Fault}
use Rattle.tpm_wire.specs.Reading.{read_all}
use Rattle.tpm_wire.specs.ResponseCodes.{rc_size}
use Rattle.tpm_wire.specs.Spelling.{spelling}
use Rattle.tpm_types.specs.declared.alg.Alg.{Alg}
use Rattle.tpm_types.specs.Alg.{alg_number}
use Rattle.tpm_types.specs.Handles.{is_session}
use Rattle.tpm_types.specs.Limits.{digest_bytes}
use Rattle.tpm_model.specs.Steps.{History, PowerCycle, Origin}
use Rattle.tpm_model.specs.Sessions.{loaded, sessions_at}
use Rattle.tpm_model.specs.Counters.{Counter, nv_memory}
use Rattle.tpm_model.specs.Kept.{kept_memory, number_of_value, restored}
use Rattle.tpm_model.specs.Authorization.{is_empty}
use Rattle.tpm_device.specs.declared.device.Device.{Device}
use Rattle.tpm_device.specs.contracts.device.Device.{the_row}
use Rattle.tpm_device.specs.Stands.{Stands, holds}
use Rattle.tpm_c.specs.declared.part.TpmRefusal.{TpmRefusal}
use Rattle.tpm_c.specs.declared.kept.TpmCounter.{TpmCounter}
use Rattle.tpm_c.specs.Calls.{Call}
use Rattle.tpm_c.specs.Devices.{fits, room_if}
use Rattle.tpm_c.specs.Parts.{refusal_of}
use Rattle.tpm_c.specs.Written.{IsIn}

-- ---- the bytes

abbrev pub kept_bytes : Origin → History → List ℕ
kept_bytes o h = spelling kept_memory (nv_memory o h)

-- what is written: the bytes of NV memory where there is room for them, and otherwise nothing
abbrev pub kept_in : ℕ → Origin → History → List ℕ
kept_in room o h = if nat_le (length (kept_bytes o h)) room then kept_bytes o h else []

-- It was written so. The bytes spell NV memory.
abbrev pub IsKeptIn : Origin → History → Call (List ℕ) → Type 0
IsKeptIn o h call =
    IsIn (kept_in (length call.old) o h) call.old call.new call.answer
    × Spells kept_memory (nv_memory o h) (kept_bytes o h)

-- ---- what is made of them

-- A device of the owner's value and these bytes: it holds what they spell, and it stands where a power cycle leaves any
-- device of this owner's value whose NV memory they spell.
pub record IsAgain (owner kept : List ℕ) (d : Device) : Type 0 where
  pub spelled : Spells kept_memory (holds d).nv kept
  pub made : holds d ≡ restored owner (holds d).nv
  pub stands : (o : Origin) (h : History)
      → o.owner ≡ owner → Spells kept_memory (nv_memory o h) kept → Stands o (PowerCycle ∷ h) d

-- SIZE at the front: the owner's value is too long.
abbrev pub long_owner : Refusal
long_owner = record { code = rc_size; at = 0 }

-- The first fault: the owner's value is too long, or that of the bytes.
abbrev pub IsFaulty : (owner kept : List ℕ) → Refusal → Type 0
IsFaulty owner kept e =
    ((digest_bytes < length owner) × (e ≡ long_owner))
    ⊎ ((length owner ≤ digest_bytes) × Fault kept_memory kept e)

-- The owner's value fits, and the bytes spell an NV memory.
abbrev pub is_made : (owner kept : List ℕ) → Bool
is_made owner kept = fits owner && is_ok (read_all kept_memory kept)

-- Where no device is made, no room is asked for: so nothing can be written.
abbrev pub restore_room : (owner kept : List ℕ) → Ptr → Fml
restore_room owner kept p = room_if (is_made owner kept) p

-- The device lies there, where one was made.
abbrev pub again_if : Bool → (owner kept : List ℕ) → Ptr → Fml
again_if true owner kept p = fex ((d : Device) × IsAgain owner kept d) (λ d. lies_at the_row full_share p d.0)
again_if false owner kept p = ftrue

abbrev pub restored_at : (owner kept : List ℕ) → Ptr → Fml
restored_at owner kept p = again_if (is_made owner kept) owner kept p

-- 0 and the refusal as it was, where one was made; and otherwise 1 and the first fault.
abbrev pub IsRestored : (owner kept : List ℕ) → Call TpmRefusal → Type 0
IsRestored owner kept call =
    ((is_made owner kept ≡ true) × (call.answer ≡ 0) × (call.new ≡ call.old))
    ⊎ ((is_made owner kept ≡ false) × (call.answer ≡ 1) × IsFaulty owner kept (refusal_of call.new))

-- ---- what is told of a device

abbrev pub greatest_of : Origin → History → ℕ
greatest_of o h = (nv_memory o h).greatest

abbrev pub hash_of : Option Alg → ℕ
hash_of (Some alg) = alg_number alg
hash_of None = 0

-- the number of the hash of a session that is loaded, or 0
abbrev pub session_hash_of : Origin → History → (session : ℕ) → ℕ
session_hash_of o h session =
    if is_session session then hash_of (option_map (λ s. s.hash) (loaded (sessions_at o h) session)) else 0

abbrev pub counters_of : Origin → History → List Counter
counters_of o h = (nv_memory o h).counters

abbrev pub counter_view : Counter → TpmCounter
counter_view c = record {
  index = c.public.index;
  hash = alg_number c.public.alg;
  attributes = c.public.attrs;
  value = number_of_value c.value;
  policy_len = length c.public.policy;
  policy = c.public.policy ++ drop (length c.public.policy) (replicate 48 0);
  has_auth = if not (is_empty c.auth) then 1 else 0;
}

abbrev pub TellsCounter : Option Counter → Call TpmCounter → Type 0
TellsCounter (Some c) call = (call.answer ≡ 0) × (call.new ≡ counter_view c)
TellsCounter None call = (call.answer ≡ 6) × (call.new ≡ call.old)

-- The view of this counter was told, where there is one.
abbrev pub IsCounterTold : Origin → History → (which : ℕ) → Call TpmCounter → Type 0
IsCounterTold o h which call = TellsCounter (slice_get (counters_of o h) which) call
