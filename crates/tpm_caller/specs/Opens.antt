-- What bytes are to a caller that waits, in the words of tokens (Part 1, "Session-Based Authorizations").
use Rattle.std.specs.Prelude.{◌≡◌, ◌≢◌, ℕ, List, [], ◌∷◌, length}
use Rattle.tpm_wire.specs.Path.{Spells}
use Rattle.tpm_types.specs.declared.tpms.AuthReply.{AuthReply}
use Rattle.tpm_commands.specs.declared.command.ReplyBody.{ReplyBody}
use Rattle.tpm_commands.specs.declared.response.Response.TheVariants as responses
use Rattle.tpm_buffer.specs.Responses.{response, done_with}
use Rattle.tpm_hmac.specs.Hmac.{hmac}
use Rattle.tpm_model.specs.InStep.{CallerSession}
use Rattle.tpm_model.specs.Callers.{Waiting, Opened, awaited_text, caller_after}

-- The bytes spell a response of code 0 to the command, with these sessions.
abbrev pub SpellsReply : Waiting → List ℕ → ReplyBody → List AuthReply → Type 0
SpellsReply w bytes body auths = Spells (response w.code) (done_with (record { body = body; auths = auths })) bytes

-- They have one session, whose nonceTPM has the session's length.
pub record HasExpected (w : Waiting) (bytes : List ℕ) (body : ReplyBody) (auth : AuthReply) : Type 0 where
  pub spells : SpellsReply w bytes body (auth ∷ [])
  pub nonce : length auth.nonce ≡ length w.caller.nonce

-- The HMAC is whole that of the new nonceTPM, the command's nonceCaller and the response's attributes: the response
-- is opened, and the caller goes on with that nonceTPM where it was kept.
pub record IsOpened (w : Waiting) (bytes : List ℕ) (x : Opened) : Type 0 where
  pub body : ReplyBody
  pub auth : AuthReply
  pub expected : HasExpected w bytes body auth
  pub mac : auth.hmac ≡ hmac w.caller.hash w.key (awaited_text w body auth)
  pub is : x ≡ record { caller = caller_after w auth; response = done_with (record { body = body; auths = auth ∷ [] }) }

-- There is not exactly one session, or its nonceTPM has another length.
pub record IsNotExpected (w : Waiting) (bytes : List ℕ) : Type 0 where
  pub body : ReplyBody
  pub auths : List AuthReply
  pub spells : SpellsReply w bytes body auths
  pub differs : (auth : AuthReply) → auths ≡ auth ∷ [] → length auth.nonce ≢ length w.caller.nonce

-- All is as expected but the HMAC.
pub record HasWrongMac (w : Waiting) (bytes : List ℕ) : Type 0 where
  pub body : ReplyBody
  pub auth : AuthReply
  pub expected : HasExpected w bytes body auth
  pub mac : auth.hmac ≢ hmac w.caller.hash w.key (awaited_text w body auth)

-- The bytes spell a response of a code that is not 0, and the caller is as before.
pub record IsGivenUp (w : Waiting) (bytes : List ℕ) (c : CallerSession) : Type 0 where
  pub code : ℕ
  pub spells : Spells (response w.code) (responses.Code code) bytes
  pub is : c ≡ w.caller
