use Rattle.std.proofs.Common.{rules, ◌≡◌, codes, false}
use Rattle.std.specs.Str.{bytes_eq}
use Rattle.clap.specs.Words.{first_value, found_of}
use Rattle.tpm_args.proofs.Found.{asks_no_other, memory_or}
use Rattle.tpm_args.proofs.given.asked_of.Goals as goal

pub returns-in_ok-nothing_asked-in_default : goal.returns-in_ok-nothing_asked-in_default
returns-in_ok-nothing_asked-in_default c =
    let name = c.args.name.now in
    let show : bytes_eq name (codes "show") ≡ false = search rules in
    let build : bytes_eq name (codes "build") ≡ false = search rules in
    let run : bytes_eq name (codes "run") ≡ false = search rules in
    let explain : bytes_eq name (codes "explain") ≡ false = search rules in
    let check : bytes_eq name (codes "check") ≡ false = search rules in
    let events : bytes_eq name (codes "events") ≡ false = search rules in
    memory_or c.in_ok-nothing_asked-in_default.field-0
    (λ _. asks_no_other name (first_value (found_of c.args.words.now)) show build run explain check events)
    c.in_ok-nothing_asked-in_default.ensures
