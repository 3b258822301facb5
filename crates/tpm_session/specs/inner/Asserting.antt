-- What a command makes of a session, by what it asserts or authorizes.
use Rattle.std.specs.Prelude.{ℕ, List, [], Bool, true, false, take, Option, None, option_map, Some, slice_set}
use Rattle.std.specs.Prelude.{slice_index_or}
use Rattle.tpm_model.specs.Sessions.{Session}
use Rattle.tpm_model.specs.Policies.{policy_of, Assertion, asserted, Policy}
use Rattle.tpm_types.specs.declared.alg.Alg.{Alg}
use Rattle.tpm_model.specs.Policies.Assertion.{PcrAsserted, CodeAsserted, AuthValueAsserted}

-- A session that authorized a command: its nonce is the first bytes of the one that is handed in,
-- and it asserts nothing any more (Part 1, "Session-Based Authorizations").
abbrev pub rolled : (nonce : List ℕ) → Session → Session
rolled nonce s = record s { nonce = take s.nonce_length nonce; policy = policy_of s.hash [] }

-- what becomes of its slot, where continueSession is set and where it is clear
abbrev pub after_command : List ℕ → (keep : Bool) → Option Session → Option Session
after_command nonce true s = option_map (rolled nonce) s
after_command nonce false s = None

-- a command code is set
abbrev pub code_after : Assertion → Option ℕ → Option ℕ
code_after (CodeAsserted code) old = Some code
code_after _ old = old

-- an update counter is kept
abbrev pub counter_after : Assertion → Option ℕ → Option ℕ
counter_after (PcrAsserted selections pcr_digest (Some n)) old = Some n
counter_after _ old = old

-- the authorization value is asked for
abbrev pub auth_value_after : Assertion → Bool → Bool
auth_value_after AuthValueAsserted old = true
auth_value_after _ old = old

abbrev pub policy_after : Alg → Assertion → Policy → Policy
policy_after alg a p = record {
  digest = asserted alg a p.digest;
  code = code_after a p.code;
  update_counter = counter_after a p.update_counter;
  auth_value = auth_value_after a p.auth_value;
}

abbrev pub asserting : Assertion → Session → Session
asserting a s = record s { policy = policy_after s.hash a s.policy }

-- It asserts nothing any more, and stays what it is otherwise.
abbrev pub restarted : Session → Session
restarted s = record s { policy = policy_of s.hash [] }

-- where what lies in one of them changes
abbrev pub with_slot : ℕ → (Option Session → Option Session) → List (Option Session) → List (Option Session)
with_slot slot change sessions = slice_set sessions slot (change (slice_index_or sessions slot None))
