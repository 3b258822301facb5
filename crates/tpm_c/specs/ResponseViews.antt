-- A response's areas by their places in its bytes.
use Rattle.std.specs.Prelude.{◌≡◌, ◌⊎◌, ℕ, zero, suc, ◌+◌, List, [], ◌∷◌, length, Option, Some, None, slice_get}
use Rattle.tpm_wire.specs.Path.{Spells, Fault}
use Rattle.tpm_types.specs.declared.tpms.AuthReply.{AuthReply}
use Rattle.tpm_types.specs.declared.command_code.CommandCode.{CommandCode}
use Rattle.tpm_commands.specs.declared.response.Response.{Response}
use Rattle.tpm_types.specs.CommandCodes.{code_of}
use Rattle.tpm_buffer.specs.Responses.{ReplyCut, reply_cut, response}
use Rattle.tpm_buffer.specs.ResponseAreas.{handle_of, place_of_params}
use Rattle.tpm_c.specs.declared.part.TpmRefusal.{TpmRefusal}
use Rattle.tpm_c.specs.declared.response.TpmResponseSession.{TpmResponseSession}
use Rattle.tpm_c.specs.declared.response.TpmResponseAreas.{TpmResponseAreas}
use Rattle.tpm_c.specs.Calls.{Call}
use Rattle.tpm_c.specs.Parts.{part, bytes_in, OfThree, refusal_of, Viewed}

-- A session that begins at this place: the number of the nonce's bytes, the nonce, the attributes,
-- the number of the HMAC's bytes, and the HMAC (Part 2, 10.13.3).
abbrev pub session_view : ℕ → Option AuthReply → TpmResponseSession
session_view at None = record { attributes = 0; nonce = part 0 0; hmac = part 0 0 }
session_view at (Some a) = record {
  attributes = a.attrs;
  nonce = part (at + 2) (length a.nonce);
  hmac = part (at + 5 + length a.nonce) (length a.hmac);
}

-- the place behind it
abbrev pub behind : ℕ → Option AuthReply → ℕ
behind at None = at
behind at (Some a) = at + 5 + length a.nonce + length a.hmac

-- the place of session i, counted from 0: they stand behind the parameters
abbrev pub place : ReplyCut → ℕ → ℕ
place c zero = place_of_params c + length c.params
place c (suc i) = behind (place c i) (slice_get c.auths i)

abbrev pub session_views : ReplyCut → List TpmResponseSession
session_views c = session_view (place c 0) (slice_get c.auths 0)
    ∷ session_view (place c 1) (slice_get c.auths 1) ∷ session_view (place c 2) (slice_get c.auths 2) ∷ []

abbrev pub count_of : Option ℕ → ℕ
count_of None = 0
count_of (Some n) = 1

abbrev pub number_of : Option ℕ → ℕ
number_of None = 0
number_of (Some n) = n

-- the view of a response: what is not there is 0
abbrev pub response_view : ReplyCut → TpmResponseAreas
response_view c = record {
  code = c.code;
  handle_count = count_of (handle_of c);
  handle = number_of (handle_of c);
  parameters = part (place_of_params c) (length c.params);
  session_count = length c.auths;
  sessions = session_views c;
}

-- The nonce and the HMAC of a session that begins at this place are the bytes of their parts.
abbrev pub HoldsSession : List ℕ → ℕ → Option AuthReply → Type 0
HoldsSession bytes at None = Unit {0}
HoldsSession bytes at (Some a) =
    (bytes_in bytes (session_view at (Some a)).nonce ≡ a.nonce)
    × (bytes_in bytes (session_view at (Some a)).hmac ≡ a.hmac)

-- What the view says lies in the bytes is there.
abbrev pub HoldsParts : List ℕ → ReplyCut → Type 0
HoldsParts bytes c = OfThree (λ i. HoldsSession bytes (place c i) (slice_get c.auths i))
    (bytes_in bytes (response_view c).parameters ≡ c.params)

-- For the command of this number the answer is 0 with the view of the response's cut, or 1 with its
-- first fault beside the parameters; it is 3 where no command has the number. What is not written
-- so is as it was.
abbrev pub ViewsResponse : ℕ → List ℕ → Call (Viewed TpmResponseAreas) → Type 0
ViewsResponse number bytes call =
    ((call.answer ≡ 0)
    × (code : CommandCode) × (code_of number ≡ Some code)
    × (c : ReplyCut) × Spells (reply_cut code) c bytes
    × (call.new.view ≡ response_view c)
    × HoldsParts bytes c
    × (call.new.refusal ≡ call.old.refusal))
    ⊎ ((call.answer ≡ 1)
    × ((code : CommandCode) × (code_of number ≡ Some code)
    × Fault (reply_cut code) bytes (refusal_of call.new.refusal))
    × (call.new.view ≡ call.old.view))
    ⊎ ((call.answer ≡ 3) × (code_of number ≡ None) × (call.new ≡ call.old))

-- For the command of this number the answer is 0 where the bytes spell a response to it, or 1 with
-- their fault; it is 3 where no command has the number.
abbrev pub JudgesResponse : ℕ → List ℕ → Call TpmRefusal → Type 0
JudgesResponse number bytes call =
    ((call.answer ≡ 0)
    × ((code : CommandCode) × (code_of number ≡ Some code) × (r : Response) × Spells (response code) r bytes)
    × (call.new ≡ call.old))
    ⊎ ((call.answer ≡ 1)
    × (code : CommandCode) × (code_of number ≡ Some code)
    × Fault (response code) bytes (refusal_of call.new))
    ⊎ ((call.answer ≡ 3) × (code_of number ≡ None) × (call.new ≡ call.old))
