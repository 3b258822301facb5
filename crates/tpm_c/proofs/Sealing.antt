-- What is sealed of a command in bytes.
use Rattle.std.proofs.Common.{◌≡◌, ℕ, List, [], ◌∷◌, length, take, true, Option, Some, None, refl, sym, ap}
use Rattle.std.proofs.Common.{◌∙◌, arith}
use Rattle.std.specs.Prelude.{IfSome}
use Rattle.tpm_commands.specs.declared.command.CommandBody.{CommandBody}
use Rattle.tpm_commands.specs.Handles.{handle_kinds}
use Rattle.tpm_buffer.specs.Commands.{code_for, handles_of}
use Rattle.tpm_model.specs.InStep.{CallerSession}
use Rattle.tpm_model.specs.Callers.{Waiting}
use Rattle.tpm_caller.specs.Sent.{sent, IsSpelled}
use Rattle.tpm_caller.specs.Plain.{PlainParts, parts_of, parts_in, PartsFit, IsSentFrom}
use Rattle.tpm_c.specs.declared.caller.CallerState.TheVariants.{Free, Sealed}
use Rattle.tpm_c.specs.Written.{IsIn}
use Rattle.tpm_c.specs.Callers.{names_of, do_fit, SealedWith, seal_of, seal_by, sealed_bytes, after_seal}

-- a command has as many handles as its row has kinds
same_count : (b : CommandBody) → length (handle_kinds (code_for b)) ≡ length (handles_of b)
same_count b = grind arith

-- where the Names that are looked at and the nonce are short enough
fit_is : (p : PlainParts) (b : CommandBody) (first second nonce : List ℕ) → p ≡ parts_of b
    → do_fit (take (length (handle_kinds p.code)) (first ∷ second ∷ [])) nonce ≡ true
    → do_fit (names_of b first second) nonce ≡ true
fit_is p b first second nonce is fit =
    ap (λ (n : ℕ). do_fit (take n (first ∷ second ∷ [])) nonce) (sym (same_count b))
    ∙ ap (λ (q : PlainParts). do_fit (take (length (handle_kinds q.code)) (first ∷ second ∷ [])) nonce) (sym is)
    ∙ fit

pub is_sealed : (c : CallerSession) (o : Option CommandBody) (p : PlainParts) (means : SealedWith) (out new : List ℕ) (w : Waiting) (count : ℕ)
    → Some p ≡ parts_in o → do_fit (take (length (handle_kinds p.code)) (means.first ∷ means.second ∷ [])) means.nonce ≡ true
    → ((b : CommandBody) → p ≡ parts_of b → IsSentFrom (sent (seal_of c b means)) out new (w, count))
    → ((b : CommandBody) → p ≡ parts_of b → PartsFit b → IsSpelled (seal_of c b means)) → ((b : CommandBody) → o ≡ Some b → PartsFit b)
    → (IsIn (sealed_bytes (seal_by (Free c) o means)) out new count × IfSome (seal_by (Free c) o means) IsSpelled)
    × (Sealed w ≡ after_seal (Free c) (seal_by (Free c) o means))
is_sealed c None p means out new w count some fits sends spells fit = absurd (let z : ⊥ = cc in z)
is_sealed c (Some b) p means out new w count some fits sends spells fit =
    let is : p ≡ parts_of b = cc in
    let s = sends b is in
    rw (fit_is p b means.first means.second means.nonce is fits)
    ((record { bytes = s.1.0; count_is = s.1.1 }, spells b is (fit b refl)), ap (λ (x : Waiting). Sealed x) s.0)
