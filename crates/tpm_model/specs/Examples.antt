-- Answers worked out from the definitions alone, byte for byte.
use Prim.Native.String.{String}
use Rattle.std.specs.Prelude.{◌≡◌, ℕ, ◌+◌, ◌-◌, ◌*◌, ◌^◌, not, nat_le, ◌==◌, List, [], ◌∷◌, ◌++◌, length, replicate}
use Rattle.std.specs.Prelude.{filter, flat_map, codes, Some, if◌then◌else◌}
use Rattle.tpm_model.specs.Steps.{History, Origin, new_origin}
use Rattle.tpm_model.specs.Changes.{changes}
use Rattle.tpm_pcr.specs.Registers.{update_counter}
use Rattle.tpm_model.specs.Counters.{value_at}
use Rattle.tpm_model.specs.Answers.{answer}
use Rattle.tpm_model.specs.Runs.Stimulus.{Given, Cycled}
use Rattle.tpm_model.specs.Runs.{Stimulus, after}
use Rattle.tpm_model.specs.Lives.{Life, executed, origin_after}

-- ---- bytes in hexadecimal, with spaces for reading

abbrev pub digit : ℕ → ℕ
digit c = if nat_le c 57 then c - 48 else c - 87

abbrev pub bytes_of : List ℕ → List ℕ
bytes_of (a ∷ b ∷ rest) = (digit a * 16 + digit b) ∷ bytes_of rest
bytes_of _ = []

abbrev pub hex : String → List ℕ
hex text = bytes_of (filter (λ c. not (c == 32)) (codes text))

-- ---- devices

-- an empty owner value, and no counter before
abbrev pub new : Origin
new = new_origin [] 0

-- a counter has had the greatest value of 64 bits
abbrev pub worn : Origin
worn = new_origin [] (2 ^ 64 - 1)

-- the k-th nonce: the number k in 16 bytes, four times
abbrev pub nonce_front : ℕ → List ℕ
nonce_front k = replicate 15 0 ++ k ∷ []

abbrev pub nonce : ℕ → List ℕ
nonce k = nonce_front k ++ nonce_front k ++ nonce_front k ++ nonce_front k

abbrev pub given : ℕ → List (List ℕ) → List Stimulus
given k [] = []
given k (b ∷ bs) = Given b (nonce k) ∷ given (k + 1) bs

-- what a device has accepted of these buffers
abbrev pub accepted : Origin → List (List ℕ) → History
accepted o before = after o [] (given 1 before)

-- the answer to a buffer after others
abbrev pub reply_to : Origin → List (List ℕ) → List ℕ → List ℕ
reply_to o before bytes = answer o (accepted o before) bytes (nonce (length before + 1))

-- ---- buffers

abbrev pub startup : List ℕ
startup = hex "8001 0000000c 00000144 0000"

-- register 0 in the bank of SHA-256
abbrev pub pcr_read : List ℕ
pcr_read = hex "8001 00000014 0000017e 00000001 000b 03 010000"

abbrev pub zero_digest : List ℕ
zero_digest = replicate 32 0

-- by the empty password, with one digest of SHA-256
abbrev pub pcr_extend : String → List ℕ
pcr_extend handle =
    hex "8002 00000041 00000182" ++ hex handle ++ hex "00000009 40000009 0000 01 0000 00000001 000b" ++ zero_digest

-- by the empty password, with this event
abbrev pub pcr_event : (size : String) → String → (event : List ℕ) → List ℕ
pcr_event size handle event =
    hex "8002" ++ hex size ++ hex "0000013c" ++ hex handle ++ hex "00000009 40000009 0000 01 0000" ++ event

-- by these sessions, whose area has this size
abbrev pub pcr_reset : (size area : String) → String → String → List ℕ
pcr_reset size area handle sessions = hex "8002" ++ hex size ++ hex "0000013d" ++ hex handle ++ hex area ++ hex sessions

abbrev pub reset_by : String → List ℕ
reset_by session = pcr_reset "0000001b" "00000009" "00000010" session

abbrev pub nv_define : List ℕ
nv_define =
    hex "8002 0000002d 0000012a 40000001 00000009 40000009 0000 01 0000 0000 000e 01800001 000b 02060016 0000 0008"

abbrev pub nv_undefine : List ℕ
nv_undefine = hex "8002 0000001f 00000122 40000001 01800001 00000009 40000009 0000 01 0000"

abbrev pub nv_increment : List ℕ
nv_increment = hex "8002 0000001f 00000134 40000001 01800001 00000009 40000009 0000 01 0000"

abbrev pub nv_read : String → List ℕ
nv_read offset = hex "8002 00000023 0000014e 40000001 01800001 00000009 40000009 0000 01 0000 0008" ++ hex offset

-- of this type, bound to nothing, with a nonce of 16 zero bytes
abbrev pub start_session : String → List ℕ
start_session kind =
    hex "8001 0000002b 00000176 40000007 40000007 0010" ++ replicate 16 0 ++ hex "0000" ++ hex kind ++ hex "0010 000b"

-- with this hash, and a nonce of 48 zero bytes
abbrev pub start_with_long_nonce : String → List ℕ
start_with_long_nonce alg =
    hex "8001 0000004b 00000176 40000007 40000007 0030" ++ replicate 48 0 ++ hex "0000 00 0010" ++ hex alg

abbrev pub flush : String → List ℕ
flush handle = hex "8001 0000000e 00000165" ++ hex handle

abbrev pub policy_command_code : String → List ℕ
policy_command_code code = hex "8001 00000012 0000016c 03000000" ++ hex code

-- ---- lives

-- one increment is kept, and a second one is lost
abbrev pub cut_life : Life
cut_life = record { kept = given 1 (startup ∷ nv_define ∷ nv_increment ∷ []); lost = given 4 (nv_increment ∷ []) }

-- the device that is made again after it
abbrev pub cut_off : Origin
cut_off = origin_after new cut_life

-- ---- answers

abbrev pub code : String → List ℕ
code number = hex "8001 0000000a" ++ hex number

abbrev pub success : List ℕ
success = code "00000000"

-- of a command that a password authorizes, and that answers nothing
abbrev pub success_by_password : List ℕ
success_by_password = hex "8002 00000013 00000000 00000000 0000 01 0000"

-- The same, by a session with nonces of 16 bytes, and no HMAC since its key is empty.
abbrev pub success_by_session : ℕ → String → List ℕ
success_by_session k attributes =
    hex "8002 00000023 00000000 00000000 0010" ++ nonce_front k ++ hex attributes ++ hex "0000"

abbrev pub session_started : ℕ → String → List ℕ
session_started k handle = hex "8001 00000020 00000000" ++ hex handle ++ hex "0010" ++ nonce_front k

abbrev pub counter_read : List ℕ → List ℕ
counter_read value = hex "8002 0000001d 00000000 0000000a 0008" ++ value ++ hex "0000 01 0000"

pub record Examples : Type 0 where
  -- ---- the start

  pub started_once : reply_to new [] startup ≡ success
  pub started_twice : reply_to new (startup ∷ []) startup ≡ code "00000100"
  pub started_again_after_power : answer new (after new [] (Given startup (nonce 1) ∷ Cycled ∷ [])) startup (nonce 2)
      ≡ success
  pub read_before_startup : reply_to new [] pcr_read ≡ code "00000100"
  pub no_saved_state : reply_to new [] (hex "8001 0000000c 00000144 0001") ≡ code "000001c4"
  -- ---- the header

  pub wrong_tag : reply_to new [] (hex "8003 0000000c 00000144 0000") ≡ hex "00c4 0000000a 0000001e"
  pub unknown_code : reply_to new [] (hex "8001 0000000a 0000011e") ≡ code "00000143"
  -- ---- the order of checks, on buffers with two faults

  -- a register that there is not, before the start and after it
  pub state_before_handles : reply_to new [] (pcr_reset "0000001b" "00000009" "00000018" "40000009 0000 01 0000")
      ≡ code "00000100"
  pub handles_after_state : reply_to new (startup ∷ [])
      (pcr_reset "0000001b" "00000009" "00000018" "40000009 0000 01 0000")
      ≡ code "00000184"
  -- a wrong password and an unknown hash, and the unknown hash alone
  pub password_before_parameters : reply_to new (startup ∷ [])
      (hex "8002 00000042 00000182 00000000 0000000a 40000009 0000 01 0001 61 00000001 000d" ++ zero_digest)
      ≡ code "000009a2"
  pub parameters_after_password : reply_to new (startup ∷ [])
      (hex "8002 00000041 00000182 00000000 00000009 40000009 0000 01 0000 00000001 000d" ++ zero_digest)
      ≡ code "000001c3"
  -- an unknown hash and a register that can't be extended
  pub parameters_before_action : reply_to new (startup ∷ [])
      (hex "8002 00000041 00000182 00000011 00000009 40000009 0000 01 0000 00000001 000d" ++ zero_digest)
      ≡ code "000001c3"
  -- ---- authorization

  pub reset_by_password : reply_to new (startup ∷ []) (reset_by "40000009 0000 01 0000") ≡ success_by_password
  pub no_session : reply_to new (startup ∷ []) (hex "8001 0000000e 0000013d 00000010") ≡ code "00000125"
  pub session_not_asked : reply_to new [] (hex "8002 00000019 00000144 00000009 40000009 0000 01 0000 0000")
      ≡ code "00000145"
  pub two_sessions : reply_to new (startup ∷ [])
      (pcr_reset "00000024" "00000012" "00000010" "40000009 0000 01 0000 40000009 0000 01 0000")
      ≡ code "00000a82"
  pub password_with_nonce : reply_to new (startup ∷ [])
      (pcr_reset "0000001c" "0000000a" "00000010" "40000009 0001 aa 01 0000")
      ≡ code "0000098f"
  -- ---- registers

  pub dynamic_register : reply_to new (startup ∷ []) (pcr_extend "00000011") ≡ code "00000907"
  pub no_register : reply_to new (startup ∷ []) (pcr_extend "40000007") ≡ success_by_password
  pub event_in_dynamic_register : reply_to new (startup ∷ []) (pcr_event "00000021" "00000011" (hex "0004 00000000"))
      ≡ code "00000907"
  pub event_in_register_24 : reply_to new (startup ∷ []) (pcr_event "00000021" "00000018" (hex "0004 00000000"))
      ≡ code "00000184"
  pub event_too_long : reply_to new (startup ∷ []) (pcr_event "0000041e" "00000000" (hex "0401" ++ replicate 1025 0))
      ≡ code "000001d5"
  -- an event of four bytes, an empty one, and one into no register
  pub event_updates : update_counter (changes (accepted new (startup
      ∷ pcr_event "00000021" "00000000" (hex "0004 00000000")
      ∷ pcr_event "0000001d" "00000000" (hex "0000")
      ∷ pcr_event "00000021" "40000007" (hex "0004 00000000") ∷ []))) ≡ 2
  -- one digest into a register, one into none, no digest, and a reset
  pub two_updates : update_counter (changes (accepted new (startup ∷ pcr_extend "00000000" ∷ pcr_extend "40000007"
      ∷ hex "8002 0000001f 00000182 00000000 00000009 40000009 0000 01 0000 00000000"
      ∷ reset_by "40000009 0000 01 0000" ∷ []))) ≡ 2
  pub updates_forgotten : update_counter
      (changes (after new [] (given 1 (startup ∷ pcr_extend "00000000" ∷ []) ++ Cycled ∷ [])))
      ≡ 0
  -- ---- registers that are read

  pub one_value : reply_to new (startup ∷ []) pcr_read
      ≡ hex "8001 0000003e 00000000 00000000 00000001 000b 03 010000 00000001 0020" ++ zero_digest
  pub value_of_sha384 : reply_to new (startup ∷ []) (hex "8001 00000014 0000017e 00000001 000c 03 010000")
      ≡ hex "8001 0000004e 00000000 00000000 00000001 000c 03 010000 00000001 0030" ++ replicate 48 0
  -- all registers of two banks: the first eight values, and a selection that says so
  pub eight_values : reply_to new (startup ∷ []) (hex "8001 0000001a 0000017e 00000002 0004 03 ffffff 000b 03 ffffff")
      ≡ hex "8001 000000d2 00000000 00000000 00000002 0004 03 ff0000 000b 03 000000 00000008" ++ flat_map
      (λ value. hex "0014" ++ value) (replicate 8 (replicate 20 0))
  -- the last of the debug registers and the first of dynamic launch, once more in a second entry
  pub entry_by_entry : reply_to new (startup ∷ []) (hex "8001 0000001a 0000017e 00000002 0004 03 000003 0004 03 000002")
      ≡ hex "8001 00000064 00000000 00000000 00000002 0004 03 000003 0004 03 000002 00000003 0014" ++ replicate 20 0
      ++ hex "0014" ++ replicate 20 0xFF ++ hex "0014" ++ replicate 20 0xFF
  -- ---- counters

  pub not_defined : reply_to new (startup ∷ []) (hex "8001 0000000e 00000169 01800001") ≡ code "0000018b"
  pub defined_once : reply_to new (startup ∷ []) nv_define ≡ success_by_password
  pub defined_twice : reply_to new (startup ∷ nv_define ∷ []) nv_define ≡ code "0000014c"
  pub not_written : reply_to new (startup ∷ nv_define ∷ []) (nv_read "0000") ≡ code "0000014a"
  -- three increments, the definition undone and made again, and one increment
  pub goes_on : value_at new
      (accepted new (startup ∷ nv_define ∷ nv_increment ∷ nv_increment ∷ nv_increment
      ∷ nv_undefine ∷ nv_define ∷ nv_increment ∷ []))
      0x01800001
      ≡ Some 4
  pub goes_on_after_power : value_at new (after new []
      (given 1 (startup ∷ nv_define ∷ nv_increment ∷ nv_increment ∷ nv_increment ∷ nv_undefine ∷ [])
      ++ Cycled ∷ given 7 (startup ∷ nv_define ∷ nv_increment ∷ []))) 0x01800001 ≡ Some 4
  pub is_read : reply_to new
      (startup ∷ nv_define ∷ nv_increment ∷ nv_increment ∷ nv_increment ∷ nv_undefine ∷ nv_define ∷ nv_increment ∷ [])
      (nv_read "0000")
      ≡ counter_read (hex "00000000 00000004")
  pub is_read_past : reply_to new (startup ∷ nv_define ∷ nv_increment ∷ []) (nv_read "0001") ≡ code "00000146"
  pub no_more : reply_to worn (startup ∷ nv_define ∷ []) nv_increment ≡ code "00000146"
  -- The power took the second value, which the next life gives again: no response told it before.
  pub value_lost : value_at new (after new [] (executed cut_life)) 0x01800001 ≡ Some 2
  pub value_kept : value_at cut_off [] 0x01800001 ≡ Some 1
  pub value_given_again : value_at cut_off (after cut_off [] (given 5 (startup ∷ nv_increment ∷ []))) 0x01800001
      ≡ Some 2
  -- ---- sessions

  pub first_slot : reply_to new (startup ∷ []) (start_session "00") ≡ session_started 2 "02000000"
  pub second_slot : reply_to new (startup ∷ start_session "00" ∷ []) (start_session "01") ≡ session_started 3 "03000001"
  pub no_slot : reply_to new (startup ∷ start_session "00" ∷ start_session "00" ∷ start_session "00" ∷ [])
      (start_session "00")
      ≡ code "00000903"
  -- a nonce as long as a digest, and one that is longer
  pub nonce_of_sha384 : reply_to new (startup ∷ []) (start_with_long_nonce "000c")
      ≡ hex "8001 00000040 00000000 02000000 0030" ++ nonce_front 2 ++ nonce_front 2 ++ nonce_front 2
  pub long_nonce : reply_to new (startup ∷ []) (start_with_long_nonce "000b") ≡ code "000001d5"
  pub short_nonce : reply_to new (startup ∷ [])
      (hex "8001 0000002a 00000176 40000007 40000007 000f" ++ replicate 15 0 ++ hex "0000 00 0010 000b")
      ≡ code "000001d5"
  pub flushed : reply_to new (startup ∷ start_session "00" ∷ []) (flush "02000000") ≡ success
  pub flushed_twice : reply_to new (startup ∷ start_session "00" ∷ flush "02000000" ∷ []) (flush "02000000")
      ≡ code "000001cb"
  -- A session without a key, and without an HMAC, authorizes a reset; its nonce is the next.
  pub nonce_rolls : reply_to new (startup ∷ start_session "00" ∷ []) (reset_by "02000000 0000 01 0000")
      ≡ success_by_session 3 "01"
  pub encrypts : reply_to new (startup ∷ start_session "00" ∷ []) (reset_by "02000000 0000 20 0000") ≡ code "00000982"
  -- continueSession clear: the session is done, and removed
  pub last_use : reply_to new (startup ∷ start_session "00" ∷ []) (reset_by "02000000 0000 00 0000")
      ≡ success_by_session 3 "00"
  pub removed : reply_to new (startup ∷ start_session "00" ∷ reset_by "02000000 0000 00 0000" ∷ [])
      (reset_by "02000000 0000 01 0000")
      ≡ code "00000918"
  pub no_policy_for_a_register : reply_to new (startup ∷ start_session "01" ∷ []) (reset_by "03000000 0000 01 0000")
      ≡ code "0000012f"
  pub no_trial : reply_to new (startup ∷ start_session "03" ∷ []) (reset_by "03000000 0000 01 0000") ≡ code "00000982"
  -- ---- policies

  pub not_loaded : reply_to new (startup ∷ start_session "01" ∷ []) (hex "8001 0000000e 00000180 03000001")
      ≡ code "00000910"
  pub one_code_twice : reply_to new (startup ∷ start_session "01" ∷ policy_command_code "00000134" ∷ [])
      (policy_command_code "00000134")
      ≡ success
  pub another_code : reply_to new (startup ∷ start_session "01" ∷ policy_command_code "00000134" ∷ [])
      (policy_command_code "00000135")
      ≡ code "000001c4"
  pub another_code_after_restart : reply_to new
      (startup ∷ start_session "01" ∷ policy_command_code "00000134" ∷ hex "8001 0000000e 00000180 03000000" ∷ [])
      (policy_command_code "00000135") ≡ success
