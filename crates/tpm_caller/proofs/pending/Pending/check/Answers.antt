use Rattle.std.proofs.Common.{◌≡◌, true, length, sym, ap, ◌∙◌, subst}
use Rattle.std.proofs.lemmas.Bool.{both_ways, eqb-true}
use Rattle.tpm_types.specs.declared.tpms.AuthReply.{AuthReply}
use Rattle.tpm_commands.specs.Handles.{needs_authorization}
use Rattle.tpm_model.specs.Callers.{Waiting}
use Rattle.tpm_caller.specs.declared.waiting.CallerFault.TheVariants as faults
use Rattle.tpm_caller.proofs.Opening.{HasOne, HasMac, mac_is, no_cut, not_one_for, other_length_for}
use Rattle.tpm_caller.proofs.Opening.{other_mac_for, open_for}
use Rattle.tpm_caller.proofs.FromCut.{plain_wrong_mac}
use Rattle.tpm_caller.proofs.pending.Pending.check.Goals.{After-as_slice-4}
use Rattle.tpm_caller.proofs.pending.Pending.check.Goals as goal
use Rattle.tpm_caller.specs.inner.Checking.{has_no_params, HasFault}

abbrev Authorized : Waiting → Type 0
Authorized w = needs_authorization w.code ≡ true

-- what the HMAC of the reply is compared with
made : (c : After-as_slice-4) → HasMac c.args.self.now c.args.bytes.now c.in-Ok.areas c.in-Some.session c.mac-mac.result
made c =
    let z : Waiting = record {
      caller = c.self.inside.caller;
      code = c.self.inside.code;
      key = c.self.inside.key;
      nonce = c.self.inside.nonce;
      keep = c.self.inside.keep;
    } in
    subst (λ (w : Waiting). HasMac w c.args.bytes.now c.in-Ok.areas c.in-Some.session c.mac-mac.result) c.self.view_is (record {
      one = record {
        spells = (c.reply_areas.ensures.ok c.in-Ok.areas).0 c.in-Ok.is;
        count = sym c.auth_count.ensures ∙ c.if-auth_count-ne1.false;
        first = sym c.in-Some.is ∙ c.auth.ensures;
      };
      long = ap length (sym c.nonce-nonce.ensures.value) ∙ c.if-nonce.false ∙ ap length c.nonce.ensures.value;
      is = λ body params.
          mac_is z body c.in-Some.session c.hash-hash.result c.as_slice.result.now c.as_slice-2.result.now
          c.rp_hash.result c.params-params.result.now c.nonce-nonce.result.now c.as_slice-3.result.now
          c.mac-mac.result c.attrs.result
          c.hash-hash.ensures c.as_slice.ensures.value c.as_slice-2.ensures.value c.rp_hash.ensures.value
          (c.params-params.ensures.value ∙ params) c.nonce-nonce.ensures.value c.as_slice-3.ensures.value
          c.attrs.ensures (rw (← c.hash-hash.ensures) at c.mac-mac.ensures.value);
    })

pub returns-in_default : goal.returns-in_default
returns-in_default c =
    let bytes = c.args.bytes.now in
    let z : Waiting = record {
      caller = c.self.inside.caller;
      code = c.self.inside.code;
      key = c.self.inside.key;
      nonce = c.self.inside.nonce;
      keep = c.self.inside.keep;
    } in
    subst (λ (w : Waiting). HasFault w bytes faults.NotExpected) c.self.view_is
    (no_cut bytes faults.NotExpected z (λ k s. c.in_default.not-Ok k ((c.reply_areas.ensures.ok k).1 s)))

pub returns-then-auth_count-ne1 : goal.returns-then-auth_count-ne1
returns-then-auth_count-ne1 c =
    let bytes = c.args.bytes.now in
    let z : Waiting = record {
      caller = c.self.inside.caller;
      code = c.self.inside.code;
      key = c.self.inside.key;
      nonce = c.self.inside.nonce;
      keep = c.self.inside.keep;
    } in
    let cut = c.in-Ok.areas in
    subst (λ (w : Waiting). HasFault w bytes faults.NotExpected) c.self.view_is
    (not_one_for bytes z cut ((c.reply_areas.ensures.ok cut).0 c.in-Ok.is)
    (λ e. c.if-auth_count-ne1.true (c.auth_count.ensures ∙ e)))

pub returns-then-nonce : goal.returns-then-nonce
returns-then-nonce c =
    let bytes = c.args.bytes.now in
    let z : Waiting = record {
      caller = c.self.inside.caller;
      code = c.self.inside.code;
      key = c.self.inside.key;
      nonce = c.self.inside.nonce;
      keep = c.self.inside.keep;
    } in
    let cut = c.in-Ok.areas in
    let a : AuthReply = c.in-Some.session in
    let one : HasOne z bytes cut a = record {
      spells = (c.reply_areas.ensures.ok cut).0 c.in-Ok.is;
      count = sym c.auth_count.ensures ∙ c.if-auth_count-ne1.false;
      first = sym c.in-Some.is ∙ c.auth.ensures;
    } in
    subst (λ (w : Waiting). HasFault w bytes faults.NotExpected) c.self.view_is
    (other_length_for bytes z cut a one
    (λ e. c.if-nonce.true (ap length c.nonce-nonce.ensures.value ∙ e ∙ sym (ap length c.nonce.ensures.value))))

pub returns-then-is_empty : goal.returns-then-is_empty
returns-then-is_empty c =
    let none = subst (λ (w : Waiting). has_no_params w.code ≡ true) c.self.view_is (sym c.has_no_params.ensures ∙ c.if-has_no_params.true) in
    let empty = ap length (sym c.params-params.ensures.value) ∙ eqb-true (length c.params-params.result.now) 0 (sym c.is_empty.ensures ∙ c.if-is_empty.true) in
    plain_wrong_mac c.args.self.now c.args.bytes.now c.in-Ok.areas c.in-Some.session c.mac-mac.result
    (made (goal.at.returns-then-is_empty c).After-as_slice-4)
    (λ e. both_ways c.same.result c.if-same.false (c.same.ensures.1 (c.hmac.ensures.value ∙ e ∙ sym c.as_slice-4.ensures.value))) none empty

pub returns : goal.returns
returns c =
    other_mac_for c.args.bytes.now c.args.self.now c.in-Ok.areas c.in-Some.session c.mac-mac.result (made (goal.at.returns c).After-as_slice-4)
    (λ e. both_ways c.same.result c.if-same.false (c.same.ensures.1 (c.hmac.ensures.value ∙ e ∙ sym c.as_slice-4.ensures.value)))
    (subst Authorized c.self.view_is c.self.invariant)

pub returns-then-same : goal.returns-then-same
returns-then-same c = (
  open_for c.args.bytes.now c.nonce-nonce.result.now c.args.self.now c.in-Ok.areas c.in-Some.session c.mac-mac.result
      (made (goal.at.returns-then-same c).After-as_slice-4)
      (sym c.hmac.ensures.value ∙ c.same.ensures.0 c.if-same.true ∙ c.as_slice-4.ensures.value)
      (subst Authorized c.self.view_is c.self.invariant) c.nonce-nonce.ensures.value,
  c.nonce-nonce.ensures.fits,
)
