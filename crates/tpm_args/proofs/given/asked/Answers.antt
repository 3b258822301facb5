use Rattle.std.proofs.Common.{rules, ◌≡◌, List, Some, option_map}
use Rattle.clap.specs.Matches.{subcommand_name_of, found_of}
use Rattle.clap.specs.Walk.{Row, Text, rows_of}
use Rattle.clap.specs.Simple.{subcommand_rows_of}
use Rattle.tpm_args.proofs.Found.{asks, asks_nothing, result_then}
use Rattle.tpm_args.proofs.given.asked.Goals as goal

pub returns : goal.returns
returns c =
    let matches = c.args.matches.now in
    let found = found_of c.in-Some.words.now in
    let name : subcommand_name_of matches ≡ Some c.in-Some.name.now = search rules in
    let rows : option_map (λ (p : Text × List Row). p.1) (subcommand_rows_of matches) ≡ Some (rows_of found) = search rules in
    result_then c.asked_of.result c.asked_of.ensures (asks_nothing matches c.in-Some.name.now found name rows)
    (λ t h. asks matches c.in-Some.name.now found t name rows h)
