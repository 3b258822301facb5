use Rattle.std.proofs.Common.{arith}
use Rattle.tpm_lists.proofs.Spelling.{other_length}
use Rattle.tpm_lists.proofs.allow_lines.allowed_in.Goals as goal

pub returns-then-digits-len : goal.returns-then-digits-len
returns-then-digits-len c =
    other_length c.args.bank c.args.register c.args.digits.now
    (λ same. c.if-digits-len.true (omega (arith, same, c.digest_len-len.ensures.value)))
