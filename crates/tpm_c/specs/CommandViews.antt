-- A command's areas by their places in its bytes.
use Rattle.std.specs.Prelude.{◌≡◌, ◌⊎◌, ℕ, zero, suc, ◌+◌, ◌*◌, List, [], ◌∷◌, length, Option, Some, None, slice_get}
use Rattle.tpm_wire.specs.Layout.{cut}
use Rattle.tpm_wire.specs.Path.{Spells, Fault}
use Rattle.tpm_types.specs.declared.tpms.Auth.{Auth}
use Rattle.tpm_commands.specs.declared.command.Command.{Command}
use Rattle.tpm_types.specs.CommandCodes.{code_number}
use Rattle.tpm_commands.specs.Handles.{first, second, handle_kinds}
use Rattle.tpm_buffer.specs.Commands.{before_params, command}
use Rattle.tpm_buffer.specs.CommandAreas.{Cut, HasCut}
use Rattle.tpm_c.specs.declared.part.TpmRefusal.{TpmRefusal}
use Rattle.tpm_c.specs.declared.command.TpmCommandSession.{TpmCommandSession}
use Rattle.tpm_c.specs.declared.command.TpmCommandAreas.{TpmCommandAreas}
use Rattle.tpm_c.specs.Calls.{Call}
use Rattle.tpm_c.specs.Parts.{part, bytes_in, OfThree, refusal_of, Viewed}

-- A session that begins at this place: its handle, the number of the nonce's bytes, the nonce, the
-- attributes, the number of the HMAC's bytes, and the HMAC (Part 2, 10.13.2).
abbrev pub session_view : ℕ → Option Auth → TpmCommandSession
session_view at None = record { handle = 0; attributes = 0; nonce = part 0 0; hmac = part 0 0 }
session_view at (Some a) = record {
  handle = a.session;
  attributes = a.attrs;
  nonce = part (at + 6) (length a.nonce);
  hmac = part (at + 9 + length a.nonce) (length a.hmac);
}

-- The nonce and the HMAC of a session that begins at this place are the bytes of their parts.
abbrev pub HoldsSession : List ℕ → ℕ → Option Auth → Type 0
HoldsSession bytes at None = Unit {0}
HoldsSession bytes at (Some a) =
    (bytes_in bytes (session_view at (Some a)).nonce ≡ a.nonce)
    × (bytes_in bytes (session_view at (Some a)).hmac ≡ a.hmac)

-- the place behind it
abbrev pub behind : ℕ → Option Auth → ℕ
behind at None = at
behind at (Some a) = at + 9 + length a.nonce + length a.hmac

-- the first place of the sessions: behind the header, the handles, and authorizationSize
abbrev pub first_place : Cut → ℕ
first_place c = 14 + 4 * length (handle_kinds c.header.code)

-- the place of session i, counted from 0
abbrev pub place : Cut → ℕ → ℕ
place c zero = first_place c
place c (suc i) = behind (place c i) (slice_get c.auths i)

abbrev pub session_views : Cut → List TpmCommandSession
session_views c = session_view (place c 0) (slice_get c.auths 0)
    ∷ session_view (place c 1) (slice_get c.auths 1) ∷ session_view (place c 2) (slice_get c.auths 2) ∷ []

-- the view of a command: what is not there is 0
abbrev pub command_view : Cut → TpmCommandAreas
command_view c = record {
  code = code_number c.header.code;
  size = c.header.size;
  handle_count = length c.handles;
  handles = first c.handles ∷ second c.handles ∷ [];
  session_count = length c.auths;
  sessions = session_views c;
  parameters = part c.params_at (length c.params);
}

-- What the view says lies in the bytes is there.
abbrev pub HoldsParts : List ℕ → Cut → Type 0
HoldsParts bytes c = OfThree (λ i. HoldsSession bytes (place c i) (slice_get c.auths i))
    (bytes_in bytes (command_view c).parameters ≡ c.params)

-- The answer is 0 with the view of the bytes' cut, or 1 with their first fault before the
-- parameters; the other place is as it was.
abbrev pub ViewsCommand : List ℕ → Call (Viewed TpmCommandAreas) → Type 0
ViewsCommand bytes call =
    ((call.answer ≡ 0)
    × (c : Cut) × HasCut bytes c
    × (call.new.view ≡ command_view c)
    × HoldsParts bytes c
    × (call.new.refusal ≡ call.old.refusal))
    ⊎ ((call.answer ≡ 1)
    × Fault (cut before_params) bytes (refusal_of call.new.refusal)
    × (call.new.view ≡ call.old.view))

-- The answer is 0 where the bytes spell a command, or 1 with their fault.
abbrev pub JudgesCommand : List ℕ → Call TpmRefusal → Type 0
JudgesCommand bytes call =
    ((call.answer ≡ 0) × ((c : Command) × Spells command c bytes) × (call.new ≡ call.old))
    ⊎ ((call.answer ≡ 1) × Fault command bytes (refusal_of call.new))
