-- What a command answers is its own reply.
use Rattle.std.proofs.Common.{◌≡◌, ℕ, List, Result, Ok, Err}
use Rattle.std.specs.Prelude.{IfOk}
use Rattle.tpm_wire.specs.Reading.{read_all, ◌>>=◌}
use Rattle.tpm_commands.specs.declared.command.CommandBody.{CommandBody}
use Rattle.tpm_commands.specs.declared.command.ReplyBody.{ReplyBody}
use Rattle.tpm_commands.specs.Parameters.{parameters}
use Rattle.tpm_commands.specs.Replies.{code_for_reply}
use Rattle.tpm_buffer.specs.Commands.{body_from, code_for}
use Rattle.tpm_model.specs.Present.{Present}
use Rattle.tpm_model.specs.Actions.{action}
use Rattle.tpm_model.specs.Answers.{Presented, Done, code_only, permitted, performed, outcome}
use Rattle.tpm_model.proofs.EachCommand.{own_reply}

-- where it succeeds, with the command's own reply
abbrev IsOwn : CommandBody → ReplyBody → Type 0
IsOwn body reply = code_for body ≡ code_for_reply reply

behind : {A B : Type 0} (P : B → Type 0) (r : Result A ℕ) (f : A → Result B ℕ) → ((x : A) → IfOk (f x) P) → IfOk (r >>= f) P
behind P (Ok x) f own = own x
behind P (Err e) f own = tt

abbrev IsOwnDone : Done → Type 0
IsOwnDone d = code_for d.command.body ≡ code_for_reply d.reply.body

made_own : (body : CommandBody) (r : Result ReplyBody ℕ) (f : ReplyBody → Done) →
    ((reply : ReplyBody) → IsOwn body reply → IsOwnDone (f reply)) → IfOk r (IsOwn body)
    → IfOk (r >>= λ reply. Ok (f reply)) IsOwnDone
made_own body (Ok reply) f made own = made reply own
made_own body (Err e) f made own = tt

own_performed : (p : Present) (n : List ℕ) (x : Presented) → IfOk (performed p n x) IsOwnDone
own_performed p n x = behind IsOwnDone (code_only (read_all (parameters x.code) x.params)) _ (λ params.
    made_own (body_from x.handles params) (action p (body_from x.handles params) n) _ (λ reply own. own) (own_reply p (body_from x.handles params) n))

-- What was done is answered by the reply of its command.
pub own_done : (p : Present) (bytes n : List ℕ) → IfOk (outcome p bytes n) (λ d. code_for d.command.body ≡ code_for_reply d.reply.body)
own_done p bytes n = behind IsOwnDone (permitted p bytes) (performed p n) (λ x. own_performed p n x)
