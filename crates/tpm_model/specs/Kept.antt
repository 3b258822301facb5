-- A device that is kept: what its NV memory has to be, the bytes that spell it, and the device that is made of them
-- again (Part 1, "NV Memory"; the bytes are this profile's).
use Rattle.std.specs.Prelude.{◌≡◌, ℕ, ◌<◌, ◌≤◌, Bool, false, not, ◌&&◌, ◌==◌, nat_lt, bytes_eq, List, [], ◌∷◌, length}
use Rattle.std.specs.Prelude.{map, All, Option, Some, None, is_some, IfSome, Result, Ok, Err, if◌then◌else◌}
use Rattle.tpm_wire.specs.Reading.{◌>>=◌}
use Rattle.tpm_wire.specs.Layout.Form.{number, text, field, done}
use Rattle.tpm_wire.specs.Layout.{either}
use Rattle.tpm_wire.specs.Spelling.{spelling}
use Rattle.tpm_wire.specs.Structures.{counted}
use Rattle.tpm_wire.specs.Buffers.{Layout, number_in, any_number}
use Rattle.tpm_wire.specs.ResponseCodes.{rc_attributes, rc_integrity, rc_nv_defined, rc_nv_range, rc_size, rc_value}
use Rattle.tpm_types.specs.declared.alg.Alg.TheVariants.{Sha256}
use Rattle.tpm_types.specs.declared.tpms.NvPublic.{NvPublic}
use Rattle.tpm_types.specs.Alg.{digest_len}
use Rattle.tpm_types.specs.Tpm2b.{auth_value}
use Rattle.tpm_types.specs.Tpma.{any_set, is_counter, is_readable, is_writable, is_written}
use Rattle.tpm_types.specs.Tpms.{nv_public}
use Rattle.tpm_hmac.specs.Hashes.{digest}
use Rattle.tpm_hmac.specs.Sessions.{trim}
use Rattle.tpm_pcr.specs.Registers.{registers_after}
use Rattle.tpm_model.specs.Sessions.{slots}
use Rattle.tpm_model.specs.Counters.{Counter, counter_in, NvMemory}
use Rattle.tpm_model.specs.Authorization.{refuse, is_empty}
use Rattle.tpm_model.specs.Actions.{counter_size, most_counters}
use Rattle.tpm_model.specs.Present.{Present}

-- ---- what a counter has to be

-- The attributes are those that a definition may set (Part 3, 31.3), and WRITTEN.
abbrev pub is_kept_attrs : ℕ → Bool
is_kept_attrs attrs =
    is_counter attrs && not (any_set (10 ∷ 11 ∷ 26 ∷ 27 ∷ 28 ∷ 30 ∷ []) attrs) && is_writable attrs && is_readable attrs

-- The public area is one that a definition and increments leave.
abbrev pub check_kept_public : NvPublic → Result (Unit {0}) ℕ
check_kept_public public = do
  _ ← refuse (not (is_kept_attrs public.attrs)) rc_attributes
  _ ← refuse (not (is_empty public.policy) && not (length public.policy == digest_len public.alg)) rc_size
  refuse (not (public.data_size == counter_size)) rc_size

-- The authorization value is no longer than a digest of the index's hash, and has no trailing zeros.
abbrev pub check_kept_auth : NvPublic → List ℕ → Result (Unit {0}) ℕ
check_kept_auth public auth = do
  _ ← refuse (nat_lt (digest_len public.alg) (length auth)) rc_size
  refuse (not (length (trim auth) == length auth)) rc_value

-- what a counter of a device is
pub record IsKept (c : Counter) : Type 0 where
  pub public : check_kept_public c.public ≡ Ok tt
  pub auth : check_kept_auth c.public c.auth ≡ Ok tt
  -- WRITTEN is set exactly where there is a value, which is above 0.
  pub written : is_written c.public.attrs ≡ is_some c.value
  pub above : IfSome c.value (λ v. 0 < v)

abbrev pub is_above : ℕ → Option ℕ → Bool
is_above greatest None = false
is_above greatest (Some v) = nat_lt greatest v

-- No index is there twice, and no value is above the greatest.
abbrev pub check_counters : (greatest : ℕ) → List Counter → Result (Unit {0}) ℕ
check_counters greatest [] = Ok tt
check_counters greatest (c ∷ counters) = do
  _ ← refuse (is_some (counter_in counters c.public.index)) rc_nv_defined
  _ ← refuse (is_above greatest c.value) rc_nv_range
  check_counters greatest counters

-- What the NV memory of a device is: at most eight counters, each one that a definition and increments leave, no index
-- twice, and no value above the greatest.
pub record IsFair (nv : NvMemory) : Type 0 where
  pub few : length nv.counters ≤ most_counters
  pub counters : check_counters nv.greatest nv.counters ≡ Ok tt
  pub each : All IsKept nv.counters

-- ---- the bytes

-- no bytes, where the check is met, and otherwise its code
abbrev pub judged : Result (Unit {0}) ℕ → Layout (Unit {0})
judged check = text 0 (λ bytes. check) (λ x. [])

abbrev pub value_of_number : ℕ → Option (Option ℕ)
value_of_number n = if n == 0 then None else Some (Some n)

abbrev pub number_of_value : Option ℕ → ℕ
number_of_value None = 0
number_of_value (Some v) = v

-- a counter's value: 8 bytes where WRITTEN is set, and otherwise none
unfoldable pub kept_value : NvPublic → Layout (Option ℕ)
kept_value public =
    either (is_written public.attrs) (number 8 (λ left. value_of_number) number_of_value rc_value) (done None)

-- TPM2B_NV_PUBLIC (Part 2, 13.6), TPM2B_AUTH (10.4.5), and the value
unfoldable pub kept_counter : Layout Counter
kept_counter =
    field (λ c. c.public) nv_public (λ public.
    field (λ _. tt) (judged (check_kept_public public)) (λ _.
    field (λ c. c.auth) auth_value (λ auth.
    field (λ _. tt) (judged (check_kept_auth public auth)) (λ _.
    field (λ c. c.value) (kept_value public) (λ value.
    done (record { public = public; auth = auth; value = value }))))))

-- the magic number of these bytes: "VJNV"
abbrev pub kept_magic : ℕ
kept_magic = 0x564A4E56

-- the version of this layout
abbrev pub kept_version : ℕ
kept_version = 1

unfoldable pub magic_number : Layout ℕ
magic_number = number_in 4 (λ n. n == kept_magic) rc_value

unfoldable pub version_number : Layout ℕ
version_number = number_in 2 (λ n. n == kept_version) rc_value

-- magic number, version, the greatest value, the counters behind their count
unfoldable pub kept_contents : Layout NvMemory
kept_contents =
    field (λ _. kept_magic) magic_number (λ _.
    field (λ _. kept_version) version_number (λ _.
    field (λ nv. nv.greatest) (any_number 8) (λ greatest.
    field (λ nv. nv.counters) (counted 0 most_counters kept_counter) (λ counters.
    field (λ _. tt) (judged (check_counters greatest counters)) (λ _.
    done (record { counters = counters; greatest = greatest }))))))

-- the SHA-256 digest of the contents' bytes
abbrev pub kept_digest : NvMemory → List ℕ
kept_digest nv = digest Sha256 (spelling kept_contents nv)

abbrev pub judge_digest : NvMemory → List ℕ → Result (List ℕ) ℕ
judge_digest nv bytes = if bytes_eq bytes (kept_digest nv) then Ok bytes else Err rc_integrity

unfoldable pub digest_behind : NvMemory → Layout (List ℕ)
digest_behind nv = text 32 (judge_digest nv) (λ bytes. bytes)

-- NV memory as it is kept: the contents, and as the last 32 bytes the SHA-256 digest of all before them
unfoldable pub kept_memory : Layout NvMemory
kept_memory =
    field (λ nv. nv) kept_contents (λ nv.
    field kept_digest (digest_behind nv) (λ _.
    done nv))

-- ---- the device that is made again

-- what is present on a device that was made of the owner's value and NV memory: as on a new one, but for the counters
abbrev pub restored : (owner : List ℕ) → NvMemory → Present
restored owner nv = record {
  started = false;
  owner = owner;
  registers = registers_after [];
  sessions = map (λ _. None) slots;
  nv = nv;
}
