-- A command that was read acts, and what acted is answered and rolls; or it is refused.
use Rattle.std.proofs.Common.{◌≡◌, ℕ, true, false, List, Result, Ok, Err, Option, refl, sym, ap, subst, ◌∙◌}
use Rattle.std.specs.Prelude.{IfOk, OnOk, OnErr}
use Rattle.arrayvec.specs.ArrayVec.{ArrayVec}
use Rattle.tpm_wire.specs.declared.refusal.Refusal.{Refusal}
use Rattle.tpm_wire.specs.Reading.{read_all}
use Rattle.tpm_types.specs.declared.command_code.CommandCode.{CommandCode}
use Rattle.tpm_types.specs.declared.command_code.CommandCode.TheVariants as codes
use Rattle.tpm_commands.specs.declared.command.CommandBody.{CommandBody}
use Rattle.tpm_commands.specs.declared.command.Params.{Params}
use Rattle.tpm_commands.specs.declared.command.ReplyBody.{ReplyBody}
use Rattle.tpm_commands.specs.Handles.{needs_authorization}
use Rattle.tpm_commands.specs.Parameters.{parameters, params_code}
use Rattle.tpm_buffer.specs.CommandAreas.{Cut}
use Rattle.tpm_buffer.specs.Commands.{body_from, code_for}
use Rattle.tpm_model.specs.Present.{Present}
use Rattle.tpm_model.specs.Actions.{action}
use Rattle.tpm_model.specs.Answers.{Presented, Done, performed, with_outcome}
use Rattle.tpm_model.specs.Premises.{code_in}
use Rattle.tpm_model.proofs.OwnCode.{code_again}
use Rattle.tpm_session.specs.declared.authorize.Authorization.{Authorization}
use Rattle.tpm_device.specs.declared.device.Device.{Device}
use Rattle.tpm_device.specs.Stands.{holds, Stands}
use Rattle.tpm_device.specs.inner.Checks.{presented_with}
use Rattle.tpm_device.specs.inner.Actions.{done_of, acted, Steps, step_of, Acting, IsActed}
use Rattle.tpm_device.specs.inner.Answers.{Replies, Rolls, told}
use Rattle.tpm_device.specs.inner.Performing.{MayBePerformed, IsPerformed, Begin, End}
use Rattle.tpm_device.proofs.Passing.{params_refuse, refused_with_code, was_done, was_refused, with_params, without_params}

pub implied : {A E : Type 0} (P Q : A → Type 0) (r : Result A E) → ((x : A) → P x → Q x) → IfOk r P → IfOk r Q
implied P Q (Ok x) f p = f x p
implied P Q (Err e) f p = tt

-- ---- it acts

done_refused : (p : Present) (n : List ℕ) (y : Presented) (body : CommandBody) (code : ℕ) → Err code ≡ action p body n → done_of p n y body ≡ Err code
done_refused p n y body code is = rw (← is) refl

-- What was done with the parameters that were read has acted.
pub acts_with : (x : Cut) (params : Params) (a : Acting) (r : Result (Unit {0}) ℕ) → read_all (parameters x.header.code) x.params ≡ Ok params
    → params_code params ≡ x.header.code → acted a.reply r ≡ action (holds a.old) (body_from x.handles params) a.nonce
    → OnOk r (Steps a.old a.new (step_of (body_from x.handles params) a.reply a.nonce))
    → (needs_authorization (params_code params) ≡ true → a.new.sessions ≡ a.old.sessions) → OnErr r (a.new ≡ a.old) → IsActed x a r
acts_with x params a (Ok u) reads code is steps same refused =
    (params, reads, code, is, steps, λ needs. same (ap needs_authorization code ∙ needs))
acts_with x params a (Err e) reads code is steps same refused = (
  params_refuse (holds a.old) a.nonce x params (Err e) reads
      (λ y own handles params_are. done_refused (holds a.old) a.nonce y (body_from x.handles params) e is),
  refused,
)

-- Parameters that cannot be read refuse the command.
pub acts_never : (x : Cut) (a : Acting) (fault : Refusal) → read_all (parameters x.header.code) x.params ≡ Err fault → a.new ≡ a.old
    → IsActed x a (Err fault.code)
acts_never x a fault reads same = (λ y own handles is. rw (own, is, reads) refl, same)

-- ---- it was performed

-- what is left of a command that acted
abbrev pub acting : Begin → ReplyBody → Device → Acting
acting old reply mid = record { old = old.device; nonce = old.nonce; reply = reply; new = mid }

abbrev pub ended : Device → ArrayVec ℕ → End
ended new after = record { result = Ok tt; device = new; out = after }

-- A command that acted, was answered and rolled its session is performed.
pub acted_done : (old : Begin) (mid new : Device) (x : Cut) (by : Option Authorization) (reply : ReplyBody) (after : ArrayVec ℕ)
    → MayBePerformed old.device x by old.out → IsActed x (acting old reply mid) (Ok tt)
    → Replies mid x (record { body = reply; nonce = old.nonce; bytes = after.items }) → code_in after.items ≡ 0 → Rolls mid x.auths old.nonce new
    → IsPerformed x (performed (holds old.device) old.nonce) old (ended new after)
acted_done old mid new x by reply after ready did replies done rolls =
    let params : Params = did.0 in
    with_params x params did.1
    (was_done old mid new x by (body_from x.handles params) reply after ready (code_again params x.handles ∙ did.2) did.3 did.4
    replies done rolls)

-- One that did not act is refused.
pub acted_refused : (old : Begin) (mid : Device) (x : Cut) (reply : ReplyBody) (code : ℕ) → IsActed x (acting old reply mid) (Err code)
    → IsPerformed x (performed (holds old.device) old.nonce) old (record { result = Err code; device = mid; out = old.out })
acted_refused old mid x reply code did = record {
  answer = λ e o h gives st. sym (ap told (did.0 (presented_with (holds old.device) x e) refl refl refl));
  stands = λ e o h gives st. subst (λ (r : Result Done ℕ). Stands o (with_outcome h old.nonce r) mid)
      (sym (did.0 (presented_with (holds old.device) x e) refl refl refl))
      (subst (λ (d : Device). Stands o h d) (sym did.1) st);
  refuses = did.0;
  refused = did.1;
  done = tt;
  none = refl;
}

-- ---- a command that is performed by itself

-- It is performed where its action was done, and it was answered and rolled.
pub body_done : (old : Begin) (mid new : Device) (x : Cut) (by : Option Authorization) (params : Params) (body : CommandBody) (reply : ReplyBody)
    (after : ArrayVec ℕ) → MayBePerformed old.device x by old.out → read_all (parameters x.header.code) x.params ≡ Ok params
    → body_from x.handles params ≡ body → code_for body ≡ x.header.code
    → Ok reply ≡ action (holds old.device) body old.nonce → Steps old.device mid (step_of body reply old.nonce)
    → Replies mid x (record { body = reply; nonce = old.nonce; bytes = after.items }) → code_in after.items ≡ 0 → Rolls mid x.auths old.nonce new
    → IsPerformed x (performed (holds old.device) old.nonce) old (ended new after)
body_done old mid new x by params body reply after ready reads from code is steps replies done rolls =
    with_params x params reads (subst (λ (b : CommandBody). IsPerformed x (λ y. done_of (holds old.device) old.nonce y b) old (ended new after)) (sym from)
    (was_done old mid new x by body reply after ready code is steps replies done rolls))

-- It is refused where its action refuses.
pub body_refused : (old : Begin) (new : Device) (x : Cut) (params : Params) (body : CommandBody) (code : ℕ) →
    read_all (parameters x.header.code) x.params ≡ Ok params → body_from x.handles params ≡ body
    → Err code ≡ action (holds old.device) body old.nonce → new ≡ old.device
    → IsPerformed x (performed (holds old.device) old.nonce) old (record { result = Err code; device = new; out = old.out })
body_refused old new x params body code reads from is same =
    with_params x params reads (subst (λ (b : CommandBody). IsPerformed x (λ y. done_of (holds old.device) old.nonce y b) old
    (record { result = Err code; device = new; out = old.out })) (sym from) (was_refused old new x body code is same))

-- It is refused where its parameters cannot be read.
pub fault_refuses : (old : Begin) (x : Cut) (fault : Refusal) (code : ℕ) → read_all (parameters x.header.code) x.params ≡ Err fault → fault.code ≡ code
    → IsPerformed x (performed (holds old.device) old.nonce) old (refused_with_code old code)
fault_refuses old x fault code reads is =
    subst (λ (n : ℕ). IsPerformed x (performed (holds old.device) old.nonce) old (refused_with_code old n)) is (without_params old x fault reads)

-- Neither of the two needs authorization.
pub starting_needs_none : (code : CommandCode) → code ≡ codes.StartAuthSession → needs_authorization code ≡ true → ⊥
starting_needs_none code is needs = let no : false ≡ true = sym (ap needs_authorization is) ∙ needs in cc

pub asserting_needs_none : (code : CommandCode) → code ≡ codes.PolicyPcr → needs_authorization code ≡ true → ⊥
asserting_needs_none code is needs = let no : false ≡ true = sym (ap needs_authorization is) ∙ needs in cc
