use Rattle.std.proofs.Common.{rules, ℕ, codes, refl}
use Rattle.std.specs.Prelude.{unwrap_or}
use Rattle.clap.specs.Words.{first_value, found_of}
use Rattle.tpm_names.specs.Numbers.{IsPort}
use Rattle.tpm_args.proofs.Found.{no_packets}
use Rattle.tpm_args.proofs.show.shown_packets.Goals as goal

pub returns : goal.returns
returns c = (refl, c.requires, search rules, search rules, c.is_given.ensures, c.form_asked.ensures, search rules, search rules, search rules, search rules)

pub returns-in_err-port : goal.returns-in_err-port
returns-in_err-port c =
    let value = first_value (found_of c.args.words.now) in
    let none : (port : ℕ) → IsPort (unwrap_or (value (codes "port")) (codes "2321")) port → ⊥ = search rules in
    rw c.from_residual.ensures (no_packets value c.args.file.now c.requires (λ task h. none task.port h.2))
