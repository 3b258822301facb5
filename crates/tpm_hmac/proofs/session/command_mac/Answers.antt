use Rattle.std.proofs.Common.{length, ◌++◌, ◌∙◌, ap, append_assoc}
use Rattle.tpm_hmac.proofs.DigestLengths.{length-hmac}
use Rattle.tpm_hmac.proofs.session.command_mac.Goals as goal

pub returns-clause-value : goal.returns-clause-value
returns-clause-value c =
    let alg = c.args.alg in let key = c.args.session_key.now ++ c.trim.result.now in
    c.finish.ensures alg key _
    (c.update-4.ensures alg key _ (c.update-3.ensures alg key _ (c.update-2.ensures alg key _ (c.update.ensures alg key _ c.new-mac.ensures))))
    ∙ rw (c.trim.ensures.value, c.number.ensures.value) (simp append_assoc)

pub returns-clause-len : goal.returns-clause-len
returns-clause-len c = ap length (returns-clause-value c) ∙ length-hmac c.args.alg _ _
