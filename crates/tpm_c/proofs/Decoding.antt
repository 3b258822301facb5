-- What is decoded is what the bytes are read as.
use Rattle.std.proofs.Common.{◌≡◌, List, ℕ, Ok, Err, None, refl}
use Rattle.tpm_wire.specs.declared.refusal.Refusal.{Refusal}
use Rattle.tpm_wire.specs.Buffers.{buffer, Layout}
use Rattle.tpm_wire.specs.Path.{Spells, Fault}
use Rattle.tpm_wire.specs.Reading.{read_all}
use Rattle.tpm_wire.proofs.Buffers.{buffer_sound}
use Rattle.tpm_wire.proofs.Whole.{spells_read, fault_read}
use Rattle.tpm_commands.specs.declared.command.CommandBody.{CommandBody}
use Rattle.tpm_commands.specs.declared.command.StartAuth.{StartAuth}
use Rattle.tpm_commands.specs.declared.command.ReplyBody.{ReplyBody}
use Rattle.tpm_commands.specs.declared.response.StartReply.{StartReply}
use Rattle.tpm_commands.specs.declared.command.CommandBody.TheVariants as bodies
use Rattle.tpm_commands.specs.declared.command.ReplyBody.TheVariants as replies
use Rattle.tpm_c.specs.Callers.{request_of, reply_of}

pub is_read : {A : Type 0} (l : Layout A) (bytes : List ℕ) (x : A) → Spells l x bytes → read_all l bytes ≡ Ok x
is_read l bytes x s = spells_read buffer buffer_sound l bytes x s

pub is_refused : {A : Type 0} (l : Layout A) (bytes : List ℕ) (e : Refusal) → Fault l bytes e → read_all l bytes ≡ Err e
is_refused l bytes e f = fault_read buffer buffer_sound l bytes e f

pub no_request : (b : CommandBody) → ((q : StartAuth) → b ≡ bodies.StartAuthSession q → ⊥) → None ≡ request_of b
no_request (bodies.StartAuthSession q) differs = absurd (differs q refl)
no_request _ differs = refl

pub no_reply : (b : ReplyBody) → ((r : StartReply) → b ≡ replies.StartAuthSession r → ⊥) → None ≡ reply_of b
no_reply (replies.StartAuthSession r) differs = absurd (differs r refl)
no_reply _ differs = refl
