use Rattle.std.proofs.Common.{◌∷◌, [], ◌++◌, length, ◌∙◌, ap}
use Rattle.std.proofs.lemmas.List.{append-nil}
use Rattle.std.specs.Int.{w32, to_be_bytes}
use Rattle.tpm_hmac.specs.Hmac.{hmac}
use Rattle.tpm_hmac.proofs.DigestLengths.{length-hmac}
use Rattle.tpm_hmac.proofs.KdfaBlocks.{in_six}
use Rattle.tpm_hmac.proofs.mac.kdfa_block.Goals as goal

pub returns-clause-value : goal.returns-clause-value
returns-clause-value c =
    let alg = c.args.alg in let key = c.args.key.now ++ [] in
    c.finish.ensures alg key _
    (c.update-6.ensures alg key _
    (c.update-5.ensures alg key _
    (c.update-4.ensures alg key _ (c.update-3.ensures alg key _ (c.update-2.ensures alg key _ (c.update.ensures alg key _ c.new-mac.ensures))))))
    ∙ rw (append-nil c.args.key.now, c.to_be_bytes.ensures, c.to_be_bytes-2.ensures)
    (ap (hmac alg c.args.key.now)
    (in_six (to_be_bytes w32 c.args.counter) c.args.label.now (0 ∷ []) c.args.context_u.now c.args.context_v.now (to_be_bytes w32 c.args.bits)))

pub returns-clause-len : goal.returns-clause-len
returns-clause-len c = ap length (returns-clause-value c) ∙ length-hmac c.args.alg _ _
