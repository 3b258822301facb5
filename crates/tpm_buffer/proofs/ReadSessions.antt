-- The sessions of a response, and the place of its parameters.
use Rattle.std.proofs.Common.{◌≡◌, ℕ, ◌+◌, ◌*◌, ◌≤◌, ◌<◌, List, ◌∷◌, ◌++◌, length, take, drop, refl}
use Rattle.std.proofs.Common.{append_assoc, arith, length-take-le, length-drop}
use Rattle.std.proofs.lemmas.Bool.{ne_eqb}
use Rattle.std.proofs.lemmas.List.{append-nil}
use Rattle.tpm_wire.specs.Spelling.{spelling, joined_all}
use Rattle.tpm_types.specs.declared.tpms.AuthReply.{AuthReply}
use Rattle.tpm_types.specs.Tpms.{auth_response}
use Rattle.tpm_buffer.specs.Responses.{further_sessions, reply_sessions}
use Rattle.tpm_buffer.specs.ResponseAreas.{place_behind}

-- the first session and the others are all of them
pub text_of : (a : AuthReply) (others : List AuthReply) (all rest after : List ℕ)
    → all ≡ spelling auth_response a ++ rest → rest ≡ joined_all auth_response others ++ after
    → all ≡ spelling reply_sessions (a ∷ others) ++ after
unfolding reply_sessions further_sessions
text_of a others all rest after one more =
    rw (
      one,
      more,
      append-nil (joined_all auth_response others),
      append_assoc (spelling auth_response a) (joined_all auth_response others) after,
    ) refl

-- ---- the place of the parameters

pub place_before_sessions : (hs : List ℕ) (auths : List AuthReply) → 0 < length auths → place_behind hs auths ≡ 10 + 4 * length hs + 4
place_before_sessions hs auths some = rw (ne_eqb (length auths) 0 (λ e. omega (arith, some, e))) refl

pub has_params : (bytes : List ℕ) (n at place : ℕ) → at ≡ place → at + n ≤ length bytes
    → take n (drop at bytes) ≡ take (length (take n (drop at bytes))) (drop place bytes)
has_params bytes n at place is le =
    let some : length (take n (drop at bytes)) ≡ n = length-take-le n (drop at bytes) (omega (arith, le, length-drop at bytes)) in
    rw (some, is) refl
