-- What the laws on runs speak of.
use Rattle.std.specs.Prelude.{◌≡◌, ◌≢◌, ◌↔◌, ℕ, ◌<◌, true, List, [], ◌∷◌, ◌++◌, length, take, drop, Option, Some}
use Rattle.std.specs.Prelude.{None, Result, Ok, Err, ◌==◌, if◌then◌else◌}
use Rattle.tpm_wire.specs.Buffers.{Layout}
use Rattle.tpm_wire.specs.Token.{number_of, Here}
use Rattle.tpm_wire.specs.declared.refusal.Refusal.{Refusal}
use Rattle.tpm_wire.specs.Reading.{read_all}
use Rattle.tpm_wire.specs.Path.{Spells, Fault, Begins, FaultFrom}
use Rattle.tpm_wire.specs.Spelling.{Fits}
use Rattle.tpm_types.specs.declared.alg.Alg.{Alg}
use Rattle.tpm_types.specs.declared.tpms.Auth.{Auth}
use Rattle.tpm_types.specs.declared.tpms.AuthReply.{AuthReply}
use Rattle.tpm_types.specs.Handles.{is_session}
use Rattle.tpm_types.specs.Limits.{digest_bytes}
use Rattle.tpm_types.specs.declared.command_code.CommandCode.{CommandCode}
use Rattle.tpm_commands.specs.declared.command.Command.{Command}
use Rattle.tpm_commands.specs.declared.command.ReplyBody.{ReplyBody}
use Rattle.tpm_commands.specs.declared.response.Response.{Response}
use Rattle.tpm_commands.specs.Handles.{first}
use Rattle.tpm_buffer.specs.Commands.{command, code_for, handles_of}
use Rattle.tpm_buffer.specs.Responses.{response, done_with}
use Rattle.tpm_commands.specs.declared.response.Response.TheVariants as responses
use Rattle.tpm_hmac.specs.Hmac.{hmac}
use Rattle.tpm_hmac.specs.Sessions.{trim}
use Rattle.tpm_model.specs.Steps.{History, PowerCycle, Origin}
use Rattle.tpm_model.specs.Sessions.{Session, loaded}
use Rattle.tpm_model.specs.Present.{Present, present}
use Rattle.tpm_model.specs.Entities.{Entity, entity_of, names_of}
use Rattle.tpm_model.specs.Authorization.Evidence.{NotAsked, ByPassword, ByMac}
use Rattle.tpm_model.specs.Authorization.{Signed, command_text, needs_none, Evidence, follows, nonce_next, reply_text}
use Rattle.tpm_model.specs.Answers.{code_only, by_grammar, Presented, presented, Done, outcome, next, reply_params}
use Rattle.tpm_model.specs.InStep.{CallerSession, InStep}
use Rattle.tpm_model.specs.Callers.{Seal, sealed_command, sealed, Waiting, waiting, Opened, with_nonce, awaited_text}
use Rattle.tpm_model.specs.Runs.Stimulus.{Given, Cycled}
use Rattle.tpm_model.specs.Runs.{Stimulus}
use Rattle.tpm_hmac.specs.Among.{IsAmong}

-- ---- cuts

-- A cut of the command is Ok exactly where the bytes from the place on begin so, and Err exactly where they have that
-- fault.
pub record IsByGrammar {A : Type 0} (l : Layout A) (h : Here) : Type 0 where
  pub value : (x : A) (behind : Here) → (by_grammar l h ≡ Ok (x, behind)) ↔ Begins 0 l x h behind
  pub fault : (code : ℕ) → (by_grammar l h ≡ Err code) ↔ ((e : Refusal) × FaultFrom 0 l h e × (e.code ≡ code))

-- The same of what is left, which the layout has to fill.
pub record IsWholeByGrammar {A : Type 0} (l : Layout A) (bytes : List ℕ) : Type 0 where
  pub value : (x : A) → (code_only (read_all l bytes) ≡ Ok x) ↔ Spells l x bytes
  pub fault : (code : ℕ)
      → (code_only (read_all l bytes) ≡ Err code) ↔ ((e : Refusal) × Fault l bytes e × (e.code ≡ code))

-- ---- accepted buffers

-- the response code of a response (Part 1, "Command/Response Structure"): behind the tag and the size, in four bytes
abbrev pub code_in : List ℕ → ℕ
code_in bytes = number_of (take 4 (drop 6 bytes))

-- The buffer is done, and answered with code 0.
abbrev pub IsAccepted : Origin → History → (bytes nonce : List ℕ) → Type 0
IsAccepted o h bytes nonce = (d : Done) × (outcome (present o h) bytes nonce ≡ Ok d)

-- The bytes spell a command whose session is an HMAC or policy session, with a nonempty HMAC.
abbrev pub HasSessionMac : List ℕ → Type 0
HasSessionMac bytes =
    (c : Command) × (a : Auth) × Spells command c bytes × (c.auths.items ≡ a ∷ []) × (is_session a.session ≡ true)
    × (0 < length a.hmac)

-- ---- nonces

-- the nonces handed in
abbrev pub nonces : List Stimulus → List (List ℕ)
nonces [] = []
nonces (Given bytes nonce ∷ es) = nonce ∷ nonces es
nonces (Cycled ∷ es) = nonces es

-- how many bytes a session's nonces have at least
abbrev pub least_nonce : ℕ
least_nonce = 16

-- The nonce begins otherwise than each of these.
abbrev pub IsApart : List ℕ → List (List ℕ) → Type 0
IsApart n [] = Unit {0}
IsApart n (m ∷ ms) = (take least_nonce n ≢ take least_nonce m) × IsApart n ms

abbrev pub AreApart : List (List ℕ) → Type 0
AreApart [] = Unit {0}
AreApart (n ∷ ns) = IsApart n ns × AreApart ns

-- The nonces handed in are pairwise different in their first 16 bytes.
abbrev pub NoncesDiffer : List Stimulus → Type 0
NoncesDiffer es = AreApart (nonces es)

-- ---- texts

-- a text, with the hash and the key of its HMAC
pub record Keyed : Type 0 where
  pub hash : Alg
  pub key : List ℕ
  pub text : List ℕ

abbrev pub mac_of : Keyed → List ℕ
mac_of x = hmac x.hash x.key x.text

abbrev pub keyed : Signed → Keyed
keyed x = record { hash = x.session.hash; key = x.key; text = command_text x }

-- The text that the last check of the sessions looks at. Where no HMAC is needed and none is there, there is none.
abbrev pub text_in : Evidence → List Keyed
text_in NotAsked = []
text_in (ByPassword given wanted) = []
text_in (ByMac x) = if needs_none x then [] else keyed x ∷ []

abbrev pub text_checked : Result Presented ℕ → List Keyed
text_checked (Ok x) = text_in x.evidence
text_checked (Err code) = []

-- the texts whose HMACs are checked in a run
abbrev pub texts_checked : Origin → History → List Stimulus → List Keyed
texts_checked o h [] = []
texts_checked o h (Given bytes nonce ∷ es) =
    text_checked (presented (present o h) bytes) ++ (texts_checked o (next o h bytes nonce) es)
texts_checked o h (Cycled ∷ es) = texts_checked o (PowerCycle ∷ h) es

-- No two different texts among these have the same HMAC, each under its own key and hash.
abbrev pub AreFree : List Keyed → Type 0
AreFree texts = (x y : Keyed) → IsAmong x texts → IsAmong y texts → mac_of x ≡ mac_of y → x.text ≡ y.text

-- those that are checked in a device's run from this origin
abbrev pub NoCollision : Origin → List Stimulus → Type 0
NoCollision o es = AreFree (texts_checked o [] es)

-- ---- a caller and a device

-- The command that is sealed has a spelling: each value is one that its layout has room for.
abbrev pub HasSpelling : Seal → Type 0
HasSpelling s = Fits (length (sealed s)) command (sealed_command s)

-- what the rules put behind the key of this session
abbrev pub asked_for : Option Session → Entity → List ℕ
asked_for None e = []
asked_for (Some s) e = follows s e

-- It is sealed with the Names as they are now, and with the authValue that the rules ask for, without trailing zeros.
pub record IsPresent (p : Present) (s : Seal) : Type 0 where
  pub names : s.names ≡ names_of p (handles_of s.body)
  pub auth : trim s.auth
      ≡ trim (asked_for (loaded p.sessions s.caller.handle) (entity_of p (first (handles_of s.body))))

-- how many bytes are handed in, and how many a nonce of a session has at most
abbrev pub nonce_bytes : ℕ
nonce_bytes = 64

abbrev pub most_nonce : ℕ
most_nonce = digest_bytes

-- A caller in step seals a command, with what is there.
pub record IsReady (o : Origin) (h : History) (s : Seal) : Type 0 where
  pub in_step : InStep o h s.caller
  pub present : IsPresent (present o h) s
  pub spelled : HasSpelling s

-- the caller after an accepted step with this nonce
abbrev pub rolled : CallerSession → List ℕ → CallerSession
rolled c nonce = with_nonce c (take (length c.nonce) nonce)

-- the response that was made, and the caller where it is kept
abbrev pub opened_as : Seal → Done → List ℕ → Opened
opened_as s d nonce = record {
  caller = if s.keep then Some (rolled s.caller nonce) else None;
  response = done_with d.reply;
}

-- ---- callers and a run

-- The bytes are sealed by one of these.
abbrev pub IsSealedBy : List Seal → List ℕ → Type 0
IsSealedBy seals bytes = (s : Seal) × IsAmong s seals × Spells command (sealed_command s) bytes

-- Each buffer that is accepted, and whose session is an HMAC or policy session with a nonempty HMAC, is sealed by one
-- of these.
abbrev pub AreSealed : Origin → List Seal → History → List Stimulus → Type 0
AreSealed o seals h [] = Unit {0}
AreSealed o seals h (Given bytes nonce ∷ es) =
    (IsAccepted o h bytes nonce → HasSessionMac bytes → IsSealedBy seals bytes)
    × AreSealed o seals (next o h bytes nonce) es
AreSealed o seals h (Cycled ∷ es) = AreSealed o seals (PowerCycle ∷ h) es

abbrev pub IsOther : List ℕ → List Seal → Type 0
IsOther nonce [] = Unit {0}
IsOther nonce (s ∷ seals) = (nonce ≢ s.nonce) × IsOther nonce seals

-- The nonceCallers that were given are pairwise different.
abbrev pub SealsDiffer : List Seal → Type 0
SealsDiffer [] = Unit {0}
SealsDiffer (s ∷ seals) = IsOther s.nonce seals × SealsDiffer seals

-- the text of a reply's HMAC, under the key of the command's check
abbrev pub keyed_reply : Signed → CommandCode → (params nonce : List ℕ) → Keyed
keyed_reply x code params nonce = record {
  hash = x.session.hash;
  key = x.key;
  text = reply_text x.session.hash code params (nonce_next x.session nonce) x.auth.nonce x.auth.attrs;
}

-- the text of the reply to a command with this evidence, where it has an HMAC
abbrev pub text_by : Evidence → CommandCode → (params nonce : List ℕ) → List Keyed
text_by NotAsked code params nonce = []
text_by (ByPassword given wanted) code params nonce = []
text_by (ByMac x) code params nonce = if needs_none x then [] else keyed_reply x code params nonce ∷ []

abbrev pub text_replied : Result Presented ℕ → Result Done ℕ → (nonce : List ℕ) → List Keyed
text_replied (Ok x) (Ok d) nonce = text_by x.evidence x.code (reply_params d.reply.body) nonce
text_replied _ _ nonce = []

-- the texts of the HMACs of the replies in a run
abbrev pub texts_replied : Origin → History → List Stimulus → List Keyed
texts_replied o h [] = []
texts_replied o h (Given bytes nonce ∷ es) =
    text_replied (presented (present o h) bytes) (outcome (present o h) bytes nonce) nonce
    ++ texts_replied o (next o h bytes nonce) es
texts_replied o h (Cycled ∷ es) = texts_replied o (PowerCycle ∷ h) es

-- bytes that are given to a Waiting
pub record Opening : Type 0 where
  pub seal : Seal
  pub bytes : List ℕ

abbrev pub keyed_awaited : Waiting → ReplyBody → AuthReply → Keyed
keyed_awaited w body a = record { hash = w.caller.hash; key = w.key; text = awaited_text w body a }

abbrev pub text_awaited : Waiting → ReplyBody → List AuthReply → List Keyed
text_awaited w body (a ∷ []) = if length a.nonce == length w.caller.nonce then keyed_awaited w body a ∷ [] else []
text_awaited w body _ = []

abbrev pub text_opened : Waiting → Result Response Refusal → List Keyed
text_opened w (Ok (responses.Done body auths)) = text_awaited w body auths.items
text_opened w _ = []

-- the texts whose HMACs are checked where these are opened
abbrev pub texts_opened : List Opening → List Keyed
texts_opened [] = []
texts_opened (x ∷ xs) =
    text_opened (waiting x.seal) (read_all (response (code_for x.seal.body)) x.bytes) ++ texts_opened xs

-- The same of the texts that are checked in a device's run from this origin, those of its replies, and those that
-- opening checks.
abbrev pub NoCollisionWith : Origin → List Stimulus → List Opening → Type 0
NoCollisionWith o es xs = AreFree (texts_checked o [] es ++ (texts_replied o [] es ++ texts_opened xs))

-- A device's run from this origin: its accepted commands with session HMACs are sealed by callers, the nonceCallers
-- are pairwise different, and no two different texts have the same HMAC.
pub record IsOfCallers (o : Origin) (seals : List Seal) (xs : List Opening) (es : List Stimulus) : Type 0 where
  pub sealed : AreSealed o seals [] es
  pub differ : SealsDiffer seals
  pub no_collision : NoCollisionWith o es xs
