use Rattle.std.proofs.Common.{rules, ◌≡◌, ℕ, Err, refl, sym, subst}
use Rattle.arrayvec.specs.ArrayVec.{ArrayVec}
use Rattle.tpm_device.specs.declared.device.Device.{Device}
use Rattle.tpm_device.specs.Stands.{holds}
use Rattle.tpm_device.specs.inner.Checks.{claim_of}
use Rattle.tpm_device.specs.inner.Performing.{MayBePerformed}
use Rattle.tpm_device.proofs.Passing.{from_begin, sessions_permit, sessions_refuse, outcome_refuses, some_code, some_codes}
use Rattle.tpm_device.proofs.device.Device.outcome.Goals as goal

pub performed_alone-requires : goal.performed_alone-requires
performed_alone-requires c =
    let by = sessions_permit (holds c.args.self.now) c.args.bytes.now c.check_presented.new.areas c.in_ok-check_presented.ensures.reads
    (sym c.in_ok-check_sessions.ensures) in
    record {
      authorized = rw (← c.auths.ensures) c.in_ok-by.ensures.found;
      admitted = c.in_ok-check_presented.ensures.admitted;
      evidence = (by.evidence, by.gives);
      empty = c.requires.empty;
    }

pub performed_by_action-requires : goal.performed_by_action-requires
performed_by_action-requires c =
    let by = sessions_permit (holds c.args.self.now) c.args.bytes.now c.check_presented.new.areas c.in_ok-check_presented.ensures.reads
    (sym c.in_ok-check_sessions.ensures) in
    subst (λ (d : Device). MayBePerformed d c.check_presented.new.areas c.in_ok-by.by c.performed_alone.new.out) (sym c.in-None.ensures.none.0)
    (subst (λ (o : ArrayVec ℕ). MayBePerformed c.args.self.now c.check_presented.new.areas c.in_ok-by.by o) (sym c.in-None.ensures.none.1)
    (record {
      authorized = rw (← c.auths.ensures) c.in_ok-by.ensures.found;
      admitted = c.in_ok-check_presented.ensures.admitted;
      evidence = (by.evidence, by.gives);
      empty = c.requires.empty;
    }))

pub returns-in-Some : goal.returns-in-Some
returns-in-Some c =
    let p = holds c.args.self.now in
    let n = c.args.nonce.now in
    let did = c.in-Some.ensures.some in
    let by = sessions_permit p c.args.bytes.now c.check_presented.new.areas c.in_ok-check_presented.ensures.reads (sym c.in_ok-check_sessions.ensures) in
    let refuses = outcome_refuses p c.args.bytes.now n c.check_presented.new.areas c.in-Some.given by did.refuses in
    record {
      answer = λ o h st. rw by.is (did.answer by.evidence o h by.gives st);
      stands = λ o h st. rw by.is (did.stands by.evidence o h by.gives st);
      refuses = refuses;
      some = some_codes p c.args.bytes.now n c.in-Some.given refuses;
      refused = did.refused;
      done = did.done;
      none = did.none;
    }

pub returns-in-None : goal.returns-in-None
returns-in-None c =
    let p = holds c.args.self.now in
    let n = c.args.nonce.now in
    let did = from_begin c.check_presented.new.areas c.performed_alone.new.self c.args.self.now n c.performed_alone.new.out c.args.out.now
    (record { result = c.performed_by_action.result; device = c.performed_by_action.new.self; out = c.performed_by_action.new.out })
    c.in-None.ensures.none.0 c.in-None.ensures.none.1 c.performed_by_action.ensures in
    let by = sessions_permit p c.args.bytes.now c.check_presented.new.areas c.in_ok-check_presented.ensures.reads (sym c.in_ok-check_sessions.ensures) in
    let refuses = outcome_refuses p c.args.bytes.now n c.check_presented.new.areas c.performed_by_action.result by did.refuses in
    record {
      answer = λ o h st. rw by.is (did.answer by.evidence o h by.gives st);
      stands = λ o h st. rw by.is (did.stands by.evidence o h by.gives st);
      refuses = refuses;
      some = some_codes p c.args.bytes.now n c.performed_by_action.result refuses;
      refused = did.refused;
      done = did.done;
      none = did.none;
    }

pub returns-in_err-check_presented-clause-some : goal.returns-in_err-check_presented-clause-some
returns-in_err-check_presented-clause-some c =
    let code = c.in_err-check_presented.field-0.0 in
    let is : c.from_residual.result ≡ Err code = search rules in
    rw is (some_code (holds c.args.self.now) c.args.bytes.now c.args.nonce.now code (rw c.in_err-check_presented.ensures.refuses refl))

pub returns-in_err-by : goal.returns-in_err-by
returns-in_err-by c =
    let p = holds c.args.self.now in
    let code = c.in_err-by.field-0.0 in
    let is : c.from_residual-in_err-by.result ≡ Err code = search rules in
    let refused = sessions_refuse p c.args.bytes.now c.check_presented.new.areas code c.in_ok-check_presented.ensures.reads
    (rw (← c.auths.ensures) (c.in_err-by.ensures.missing (claim_of p c.check_presented.new.areas))) in
    record {
      answer = λ o h st. rw (is, refused) refl;
      stands = λ o h st. rw refused st;
      refuses = rw (is, refused) refl;
      some = rw is (some_code p c.args.bytes.now c.args.nonce.now code (rw refused refl));
      refused = rw is refl;
      done = rw is tt;
      none = rw is refl;
    }

pub returns-in_err-check_sessions : goal.returns-in_err-check_sessions
returns-in_err-check_sessions c =
    let p = holds c.args.self.now in
    let code = c.in_err-check_sessions.field-0.0 in
    let is : c.from_residual-in_err-check_sessions.result ≡ Err code = search rules in
    let refused = sessions_refuse p c.args.bytes.now c.check_presented.new.areas code c.in_ok-check_presented.ensures.reads
    (sym c.in_err-check_sessions.ensures) in
    record {
      answer = λ o h st. rw (is, refused) refl;
      stands = λ o h st. rw refused st;
      refuses = rw (is, refused) refl;
      some = rw is (some_code p c.args.bytes.now c.args.nonce.now code (rw refused refl));
      refused = rw is refl;
      done = rw is tt;
      none = rw is refl;
    }
