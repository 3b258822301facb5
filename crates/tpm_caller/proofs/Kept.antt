-- A key that is kept as its digest opens what the key itself would open.
use Rattle.std.proofs.Common.{◌≡◌, ℕ, List, [], ◌∷◌, Result, Ok, Err, refl}
use Rattle.tpm_wire.specs.declared.refusal.Refusal.{Refusal}
use Rattle.tpm_wire.specs.Reading.{read_all}
use Rattle.tpm_types.specs.declared.tpms.AuthReply.{AuthReply}
use Rattle.tpm_commands.specs.declared.command.ReplyBody.{ReplyBody}
use Rattle.tpm_commands.specs.declared.response.Response.{Response}
use Rattle.tpm_commands.specs.declared.response.Response.TheVariants as responses
use Rattle.tpm_buffer.specs.Responses.{response}
use Rattle.tpm_model.specs.Callers.{Waiting, awaited_text, opened_session, opened_response, opened, caller_of_refusal}
use Rattle.tpm_model.specs.Callers.{given_up}
use Rattle.tpm_caller.specs.Sent.{with_hmac_key}
use Rattle.tpm_caller.proofs.Keys.{one_hmac}

one_session : (w : Waiting) (body : ReplyBody) (auths : List AuthReply) → opened_session (with_hmac_key w) body auths ≡ opened_session w body auths
one_session w body [] = refl
one_session w body (a ∷ []) = rw (one_hmac w.caller.hash w.key (awaited_text w body a)) refl
one_session w body (a ∷ b ∷ others) = refl

one_response : (w : Waiting) (r : Result Response Refusal) → opened_response (with_hmac_key w) r ≡ opened_response w r
one_response w (Err e) = refl
one_response w (Ok (responses.Code n)) = refl
one_response w (Ok (responses.Done body auths)) = one_session w body auths.items

pub one_opened : (w : Waiting) (bytes : List ℕ) → opened (with_hmac_key w) bytes ≡ opened w bytes
one_opened w bytes = one_response w (read_all (response w.code) bytes)

one_refusal : (w : Waiting) (r : Result Response Refusal) → caller_of_refusal (with_hmac_key w) r ≡ caller_of_refusal w r
one_refusal w (Err e) = refl
one_refusal w (Ok (responses.Code n)) = refl
one_refusal w (Ok (responses.Done body auths)) = refl

pub one_given_up : (w : Waiting) (bytes : List ℕ) → given_up (with_hmac_key w) bytes ≡ given_up w bytes
one_given_up w bytes = one_refusal w (read_all (response w.code) bytes)
