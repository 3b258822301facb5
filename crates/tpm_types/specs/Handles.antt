-- Handles: TPM_HANDLE (Part 2, 7), and the sets of them that commands take.
use Rattle.std.specs.Prelude.{◌≡◌, refl, ℕ, Bool, nat_lt, ◌/◌, ◌==◌, ◌||◌}
use Rattle.tpm_wire.specs.Token.{Here}
use Rattle.tpm_wire.specs.Reading.{read}
use Rattle.tpm_wire.specs.Spelling.{spelling, Fits}
use Rattle.tpm_wire.specs.Buffers.{Layout, number_in}
use Rattle.tpm_wire.specs.ResponseCodes.{rc_value}

-- ---- permanent handles, TPM_RH (7.4)

abbrev pub rh_owner : ℕ
rh_owner = 0x40000001

abbrev pub rh_null : ℕ
rh_null = 0x40000007

-- the password in place of a session
abbrev pub rs_pw : ℕ
rs_pw = 0x40000009

abbrev pub is_owner : ℕ → Bool
is_owner n = n == rh_owner

abbrev pub is_null : ℕ → Bool
is_null n = n == rh_null

-- ---- handles of a kind, by their most significant byte, TPM_HT (7.2)

abbrev pub kind_of : ℕ → ℕ
kind_of n = n / 0x1000000

-- a register: this profile has 24
abbrev pub is_pcr : ℕ → Bool
is_pcr n = nat_lt n 24

abbrev pub is_nv_index : ℕ → Bool
is_nv_index n = kind_of n == 0x01

-- an HMAC session
abbrev pub is_hmac_session : ℕ → Bool
is_hmac_session n = kind_of n == 0x02

-- a policy or trial session
abbrev pub is_policy : ℕ → Bool
is_policy n = kind_of n == 0x03

abbrev pub is_session : ℕ → Bool
is_session n = is_hmac_session n || is_policy n

-- what authorizes: a session, or the password
abbrev pub is_auth_session : ℕ → Bool
is_auth_session n = is_session n || n == rs_pw

-- ---- their layouts: 4 bytes

abbrev pub handle_in : (ℕ → Bool) → Layout ℕ
handle_in set = number_in 4 set rc_value

-- what is said of a layout is what is said of the handles of a set
pub record IsHandleIn (set : ℕ → Bool) (l : Layout ℕ) : Type 0 where
  pub spelled : (n : ℕ) → spelling l n ≡ spelling (handle_in set) n
  pub fits : (left n : ℕ) → Fits left (handle_in set) n → Fits left l n
  pub reads : (number : ℕ) (h : Here) → read number l h ≡ read number (handle_in set) h

pub handle_in_set : (set : ℕ → Bool) → IsHandleIn set (handle_in set)
handle_in_set set = record { spelled = λ n. refl; fits = λ left n f. f; reads = λ number h. refl }

unfoldable pub pcr : Layout ℕ
pcr = handle_in is_pcr

unfoldable pub nv_index : Layout ℕ
nv_index = handle_in is_nv_index

unfoldable pub session : Layout ℕ
session = handle_in is_session

unfoldable pub policy : Layout ℕ
policy = handle_in is_policy

unfoldable pub auth_session : Layout ℕ
auth_session = handle_in is_auth_session
