-- What an accepted buffer has passed, and what holds along runs.
use Rattle.std.proofs.Common.{◌≡◌, ℕ, List, [], ◌∷◌, Result, Ok, Err, Option, Some, None, refl, ap, subst}
use Rattle.std.specs.Prelude.{ok_or}
use Rattle.tpm_wire.specs.Reading.{read_all}
use Rattle.tpm_wire.proofs.Agreement.{bind_ok}
use Rattle.tpm_commands.specs.declared.command.Params.{Params}
use Rattle.tpm_commands.specs.Parameters.{parameters}
use Rattle.tpm_buffer.specs.Commands.{body_from}
use Rattle.tpm_model.specs.Steps.{History, Accepted, PowerCycle, Origin}
use Rattle.tpm_model.specs.Present.{Present, present}
use Rattle.tpm_model.specs.Authorization.{check_evidence, reply_auths}
use Rattle.tpm_model.specs.Actions.{action}
use Rattle.tpm_model.specs.Answers.{Presented, presented, permitted, Done, reply_params, performed, outcome, code_only}
use Rattle.tpm_model.specs.Answers.{with_outcome, next}
use Rattle.tpm_model.specs.Runs.Stimulus.{Given, Cycled}
use Rattle.tpm_model.specs.Runs.{Stimulus, after}

abbrev ok : {A : Type 0} → A → Result A ℕ
ok x = Ok x

pub ok_is : {A : Type 0} (x y : A) → ok x ≡ ok y → x ≡ y
ok_is x y e = cc

abbrev pub some : {A : Type 0} → A → Option A
some x = Some x

pub some_is : {A : Type 0} (x y : A) → some x ≡ some y → x ≡ y
some_is x y e = cc

pub was_some : {A : Type 0} (x : Option A) (code : ℕ) (y : A) → ok_or x code ≡ Ok y → x ≡ Some y
was_some None code y e = absurd (let z : ⊥ = cc in z)
was_some (Some x) code y e = ap some (ok_is x y e)

-- what an accepted buffer has passed
pub record Passed (p : Present) (bytes n : List ℕ) (d : Done) : Type 0 where
  pub x : Presented
  pub asked : presented p bytes ≡ Ok x
  pub evidence : check_evidence x.entity x.evidence ≡ Ok tt
  pub params : Params
  pub read : code_only (read_all (parameters x.code) x.params) ≡ Ok params
  pub body : d.command.body ≡ body_from x.handles params
  pub auths : d.command.auths.items ≡ x.auths
  pub act : action p d.command.body n ≡ Ok d.reply.body
  pub replied : d.reply.auths ≡ reply_auths x.evidence x.code (reply_params d.reply.body) n

permitted_passed : (p : Present) (bytes : List ℕ) (x : Presented) → permitted p bytes ≡ Ok x
    → (presented p bytes ≡ Ok x) × (check_evidence x.entity x.evidence ≡ Ok tt)
permitted_passed p bytes x e =
    let a = bind_ok (presented p bytes) _ x e in
    let b = bind_ok (check_evidence a.0.entity a.0.evidence) _ x a.2 in
    let same : a.0 ≡ x = ok_is a.0 x b.2 in
    (subst (λ y. presented p bytes ≡ ok y) same a.1, subst (λ y. check_evidence y.entity y.evidence ≡ ok tt) same b.1)

pub passed : (p : Present) (bytes n : List ℕ) (d : Done) → outcome p bytes n ≡ Ok d → Passed p bytes n d
passed p bytes n d e =
    let a = bind_ok (permitted p bytes) (performed p n) d e in
    let x = a.0 in
    let before = permitted_passed p bytes x a.1 in
    let b = bind_ok (code_only (read_all (parameters x.code) x.params)) _ d a.2 in
    let c = bind_ok (action p (body_from x.handles b.0) n) _ d b.2 in
    subst (Passed p bytes n) (ok_is _ d c.2)
    (record { x = x; asked = before.0; evidence = before.1; params = b.0; read = b.1; body = refl; auths = refl; act = c.1; replied = refl })

-- what holds of a history, and of each step that may come next, holds after a buffer
pub after_next : (P : History → Type 0) (o : Origin) (h : History) (bytes n : List ℕ) → P h
    → ((d : Done) → Passed (present o h) bytes n d → P (Accepted d.command d.reply n ∷ h)) → P (next o h bytes n)
after_next P o h bytes n here step =
    elim (outcome (present o h) bytes n) as (λ x. outcome (present o h) bytes n ≡ x → P (with_outcome h n x))
    [ Ok d ↦ λ e. step d (passed (present o h) bytes n d e) | Err code ↦ λ _. here ] refl

-- an invariant of runs
pub along : (P : History → Type 0) (o : Origin)
    → ((h : History) (bytes n : List ℕ) (d : Done) → Passed (present o h) bytes n d → P h → P (Accepted d.command d.reply n ∷ h))
    → ((h : History) → P h → P (PowerCycle ∷ h)) → (es : List Stimulus) (h : History) → P h → P (after o h es)
along P o step power [] h here = here
along P o step power (Given bytes n ∷ es) h here =
    along P o step power es (next o h bytes n) (after_next P o h bytes n here (λ d s. step h bytes n d s here))
along P o step power (Cycled ∷ es) h here = along P o step power es (PowerCycle ∷ h) (power h here)

-- the history after an accepted buffer
pub next_is : (o : Origin) (h : History) (bytes n : List ℕ) (d : Done) → outcome (present o h) bytes n ≡ Ok d
    → next o h bytes n ≡ Accepted d.command d.reply n ∷ h
next_is o h bytes n d e = ap (with_outcome h n) e
