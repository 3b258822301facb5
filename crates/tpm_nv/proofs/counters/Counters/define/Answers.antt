use Rattle.std.proofs.Common.{◌≡◌, ◌≤◌, length, is_some, true, false, not, None, arith, rules, sym, ap, ◌∙◌, subst}
use Rattle.std.specs.Prelude.{◌==◌, ◌&&◌}
use Rattle.tpm_types.specs.Alg.{digest_len}
use Rattle.tpm_hmac.specs.Sessions.{trim}
use Rattle.tpm_hmac.proofs.Trimming.{trim-trim}
use Rattle.tpm_model.specs.Counters.{Counter, counter_in}
use Rattle.tpm_model.specs.Authorization.{is_empty}
use Rattle.tpm_model.specs.Actions.{is_definable, counter_size}
use Rattle.tpm_model.proofs.Kept.{defined_kept, checked_defined}
use Rattle.tpm_nv.proofs.Memory.{none_found}
use Rattle.tpm_nv.proofs.counters.Counters.define.Goals as goal

pub defined-requires-clause-kept : goal.defined-requires-clause-kept
defined-requires-clause-kept c =
    let public = c.args.public.now in
    let auth = c.trim-auth.result.now in
    let is : is_definable public.attrs ≡ true = search rules in
    let short : length auth ≤ digest_len public.alg = omega (arith, c.if-auth-len.false, c.digest_len-len.ensures.value) in
    let trimmed : trim auth ≡ auth = rw c.trim-auth.ensures.value (trim-trim c.args.auth.now) in
    let policy : (not (is_empty public.policy) && not (length public.policy == digest_len public.alg)) ≡ false = search rules in
    let size : public.data_size ≡ counter_size = search rules in
    defined_kept auth public is short trimmed policy size

pub invariant_of-self : goal.invariant_of-self
invariant_of-self c =
    let items = c.self.inside.counters.items in
    let index = c.args.public.now.index in
    let absent : is_some c.entry.result ≡ false = search rules in
    let none : counter_in items index ≡ None =
    ap (λ l. counter_in l index) (sym c.as_slice.ensures.value) ∙ none_found _ c.entry.result _ c.entry.ensures absent in
    rw c.push.ensures.items (checked_defined c.self.inside.greatest items c.defined.result c.self.invariant
    (subst (λ (x : Counter). counter_in items x.public.index ≡ None) (sym c.defined.ensures) none)
    (ap (λ (x : Counter). x.value) c.defined.ensures))
