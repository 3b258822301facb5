-- What a device answers to stimuli is the model's run.
use Rattle.std.proofs.Common.{◌≡◌, ℕ, ◌<◌, List, [], ◌∷◌, ◌++◌, Some, None, Result, Ok, Err, refl, sym, ap, subst, ◌∙◌, arith}
use Rattle.tpm_types.specs.declared.handle_sets.NvAuthHandle.{NvAuthHandle}
use Rattle.tpm_commands.specs.declared.command.CommandBody.TheVariants.{NvIncrement}
use Rattle.tpm_model.specs.Steps.{History, Origin, PowerCycle}
use Rattle.tpm_model.specs.Counters.{counter_in, value_of, value_at}
use Rattle.tpm_model.specs.Kept.{IsFair}
use Rattle.tpm_model.specs.Present.{Present, present}
use Rattle.tpm_model.specs.Answers.{Done, outcome, answer, next}
use Rattle.tpm_model.specs.Runs.{Stimulus, Given, Cycled, after, run}
use Rattle.tpm_model.specs.Premises.{code_in, IsAccepted, HasSessionMac, NoncesDiffer, NoCollision}
use Rattle.tpm_model.proofs.Fair.{fair_after}
use Rattle.tpm_model.proofs.Refused.{refused_with}
use Rattle.tpm_model.proofs.Replay.{twice}
use Rattle.tpm_model.proofs.Rising.{more_than_had, more_than_made}
use Rattle.tpm_model.proofs.Runs.{after-append}
use Rattle.tpm_model.proofs.Told.{told_refused}
use Rattle.tpm_device.specs.declared.device.Device.{Device}
use Rattle.tpm_device.specs.Stands.{holds, Stands}
use Rattle.tpm_device.specs.Runs.{Answers, Call, Executes, given_by, value_on}

pub as_the_model : (o : Origin) (h : History) (old new : Device) (es : List Stimulus) (responses : List (List ℕ))
    → Stands o h old → Answers old es responses new
    → (responses ≡ run o h es) × Stands o (after o h es) new
as_the_model o h old new [] responses st ran = (ran.0, subst (λ (d : Device). Stands o h d) ran.1 st)
as_the_model o h old new (Given bytes nonce ∷ es) [] st ran = absurd ran
as_the_model o h old new (Given bytes nonce ∷ es) (response ∷ responses) st ran =
    let rest = as_the_model o (next o h bytes nonce) ran.0 new es responses (ran.1.stands o h st) ran.2 in
    (ap (λ (x : List ℕ). x ∷ responses) (ran.1.answers o h st) ∙ ap (λ (xs : List (List ℕ)). answer o h bytes nonce ∷ xs) rest.0, rest.1)
as_the_model o h old new (Cycled ∷ es) responses st ran = as_the_model o (PowerCycle ∷ h) ran.0 new es responses (ran.1 o h st) ran.2

-- ---- no replay

by_outcome : (o : Origin) (h : History) (bytes n : List ℕ) (x : Result Done ℕ) → outcome (present o h) bytes n ≡ x →
    code_in (answer o h bytes n) ≡ 0 → IsAccepted o h bytes n
by_outcome o h bytes n (Ok d) is zero = (d, is)
by_outcome o h bytes n (Err code) is zero =
    let some : 0 < code = (refused_with (present o h) bytes n code is).0 in
    let told : code_in (answer o h bytes n) ≡ code = told_refused o h bytes n code is in
    let none : code ≡ 0 = sym told ∙ zero in
    absurd (omega (arith, some, none))

pub accepted : (o : Origin) (h : History) (bytes n response : List ℕ) → response ≡ answer o h bytes n → code_in response ≡ 0 → IsAccepted o h bytes n
accepted o h bytes n response is zero = by_outcome o h bytes n (outcome (present o h) bytes n) refl (ap code_in (sym is) ∙ zero)

pub not_twice : (o : Origin) (a : Device) (es fs gs : List Stimulus) (rs ss : List (List ℕ)) (x y : Call) → Stands o [] a → Answers a es rs x.old → Executes x
    → Answers x.new fs ss y.old → Executes y → NoncesDiffer (es ++ given_by x ∷ fs ++ given_by y ∷ gs)
    → NoCollision o (es ++ given_by x ∷ fs ++ given_by y ∷ gs)
    → HasSessionMac x.bytes → x.bytes ≡ y.bytes → code_in x.response ≡ 0 → code_in y.response ≡ 0 → ⊥
not_twice o a es fs gs rs ss x y st first once second again nonces collisions mac same zero zero_again =
    let here = after o [] es in
    let one = as_the_model o [] a x.old es rs st first in
    let there = after o (next o here x.bytes x.nonce) fs in
    let two = as_the_model o (next o here x.bytes x.nonce) x.new y.old fs ss (once.stands o here one.1) second in
    let place : after o [] (es ++ given_by x ∷ fs) ≡ there = after-append o [] es (given_by x ∷ fs) in
    let stimuli : (List ℕ → List Stimulus) = λ bytes. es ++ given_by x ∷ fs ++ Given bytes y.nonce ∷ gs in
    twice o es fs gs x.bytes x.nonce y.nonce (subst (λ (bytes : List ℕ). NoncesDiffer (stimuli bytes)) (sym same) nonces)
    (subst (λ (bytes : List ℕ). NoCollision o (stimuli bytes)) (sym same) collisions) mac
    (accepted o here x.bytes x.nonce x.response (once.answers o here one.1) zero)
    (subst (λ (h : History). IsAccepted o h x.bytes y.nonce) (sym place)
    (subst (λ (bytes : List ℕ). IsAccepted o there bytes y.nonce) (sym same)
    (accepted o there y.bytes y.nonce y.response (again.answers o there two.1) zero_again)))

-- ---- no counter goes back

pub rises : (o : Origin) (a b : Device) (es fs : List Stimulus) (rs ss : List (List ℕ)) (c : Call) (x : Done) (by : NvAuthHandle) (i w : ℕ) →
    IsFair o.nv → Stands o [] a → Answers a es rs b → value_on b i ≡ Some w → Answers b fs ss c.old
    → Executes c → outcome (holds c.old) c.bytes c.nonce ≡ Ok x → x.command.body ≡ NvIncrement by i → (v : ℕ) × (value_on c.new i ≡ Some v) × (w < v)
rises o a b es fs rs ss c x by i w fair st first had second last done body =
    let bytes = c.bytes in
    let n = c.nonce in
    let here = after o [] es in
    let one = as_the_model o [] a b es rs st first in
    let two = as_the_model o here b c.old fs ss one.1 second in
    let there = after o [] (es ++ fs) in
    let place : there ≡ after o here fs = after-append o [] es fs in
    let stands : Stands o there c.old = subst (λ (h : History). Stands o h c.old) (sym place) two.1 in
    let value : value_at o here i ≡ Some w = sym (ap (λ (p : Present). value_of (counter_in p.nv.counters i)) one.1) ∙ had in
    let more = more_than_had o es fs bytes n x by i w fair value (ap (λ (p : Present). outcome p bytes n) (sym stands) ∙ done) body in
    let ends : Stands o (next o there bytes n) c.new = last.stands o there stands in
    let at_end : after o [] (es ++ fs ++ Given bytes n ∷ []) ≡ next o there bytes n = after-append o [] (es ++ fs) (Given bytes n ∷ []) in
    (more.0, ap (λ (p : Present). value_of (counter_in p.nv.counters i)) ends ∙ ap (λ (h : History). value_at o h i) (sym at_end) ∙ more.1, more.2)

pub rises_from_the_start : (o : Origin) (a : Device) (es : List Stimulus) (rs : List (List ℕ)) (c : Call) (x : Done) (by : NvAuthHandle) (i : ℕ) →
    Stands o [] a → value_on a i ≡ None → Answers a es rs c.old
    → Executes c → outcome (holds c.old) c.bytes c.nonce ≡ Ok x → x.command.body ≡ NvIncrement by i → (v : ℕ) × (value_on c.new i ≡ Some v)
    × (o.nv.greatest < v)
rises_from_the_start o a es rs c x by i st none first last done body =
    let bytes = c.bytes in
    let n = c.nonce in
    let here = after o [] es in
    let one = as_the_model o [] a c.old es rs st first in
    let nothing : value_at o [] i ≡ None = sym (ap (λ (p : Present). value_of (counter_in p.nv.counters i)) st) ∙ none in
    let more = more_than_made o es bytes n x by i nothing (ap (λ (p : Present). outcome p bytes n) (sym one.1) ∙ done) body in
    let ends : Stands o (next o here bytes n) c.new = last.stands o here one.1 in
    let at_end : after o [] (es ++ Given bytes n ∷ []) ≡ next o here bytes n = after-append o [] es (Given bytes n ∷ []) in
    (more.0, ap (λ (p : Present). value_of (counter_in p.nv.counters i)) ends ∙ ap (λ (h : History). value_at o h i) (sym at_end) ∙ more.1, more.2)

-- ---- NV memory stays fair

pub stays_fair : (o : Origin) (a b : Device) (es : List Stimulus) (rs : List (List ℕ)) → IsFair o.nv → Stands o [] a → Answers a es rs b → IsFair (holds b).nv
stays_fair o a b es rs fair st ran =
    subst IsFair (sym (ap (λ (p : Present). p.nv) (as_the_model o [] a b es rs st ran).1)) (fair_after o es fair)
