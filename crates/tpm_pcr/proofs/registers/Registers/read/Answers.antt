use Rattle.std.proofs.Common.{◌<◌, ℕ, ap, ◌∙◌, rules}
use Rattle.tpm_pcr.specs.Registers.{value_in}
use Rattle.tpm_pcr.proofs.Stands.{held_at}
use Rattle.tpm_pcr.proofs.registers.Registers.read.Goals as goal

pub returns : goal.returns
returns c =
    let below : c.number.result < 24 = search rules in
    c.digest.ensures ∙ held_at c.args.self.now c.self.inside.bytes c.self.inside.updates c.self.view_is c.args.alg c.number.result below
    ∙ ap (λ (q : ℕ). value_in c.args.self.now.banks c.args.alg q) c.number.ensures.value
