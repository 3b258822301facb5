use Rattle.std.proofs.Common.{ap, sym, ◌∙◌, subst, map, string_bytes}
use Rattle.clap.specs.Faults.{is_simple_and_free}
use Rattle.clap.specs.Kinds.{HasKind, Kinds}
use Rattle.clap.specs.Takes.{takes}
use Rattle.clap.specs.Simple.{App, subcommand_of, subcommand_rows_of}
use Rattle.tpm_words.specs.Program.{program_app}
use Rattle.tpm_args.proofs.Found.{faults_are, met_is, simple_and_free, stops, task_asked, task_refused}
use Rattle.tpm_args.proofs.given.Words.task.Goals as goal

pub returns-in-Ok-clause-ok : goal.returns-in-Ok-clause-ok
returns-in-Ok-clause-ok c =
    let met = met_is string_bytes _ _ _ _ _ c.in_ok-program.ensures.0 c.in-Ok.ensures.matches c.as_slice.ensures.value c.self.view_is in
    task_asked (subcommand_rows_of c.in-Ok.matches) (subcommand_of program_app c.args.self.now) c.asked.result
    met c.asked.ensures

pub returns-in-Ok-clause-err : goal.returns-in-Ok-clause-err
returns-in-Ok-clause-err c =
    let met = met_is string_bytes _ _ _ _ _ c.in_ok-program.ensures.0 c.in-Ok.ensures.matches c.as_slice.ensures.value c.self.view_is in
    let faults = faults_are string_bytes _ _ _ _ c.in_ok-program.ensures.0 c.as_slice.ensures.value c.self.view_is in
    let none = sym faults ∙ c.in-Ok.ensures.kinds (ap is_simple_and_free c.in_ok-program.ensures.0 ∙ simple_and_free) in
    task_refused (subcommand_rows_of c.in-Ok.matches) c.args.self.now c.asked.result met none c.asked.ensures

pub returns-in_ok-of-in-Err-clause-err : goal.returns-in_ok-of-in-Err-clause-err
returns-in_ok-of-in-Err-clause-err c =
    let words = ap (map string_bytes) c.as_slice.ensures.value ∙ c.self.view_is in
    let faults = faults_are string_bytes _ _ _ _ c.in_ok-program.ensures.0 c.as_slice.ensures.value c.self.view_is in
    stops c.args.self.now _ c.in_ok-of-in-Err.field-0
    (λ taken. c.in-Err.ensures.passes (ap (λ (a : App). takes a (map string_bytes c.as_slice.result.now))
    c.in_ok-program.ensures.0 ∙ ap (takes program_app) words ∙ taken))
    (subst (λ (kinds : Kinds). HasKind kinds c.in-Err.error) faults
    (c.in-Err.ensures.kinds (ap is_simple_and_free c.in_ok-program.ensures.0 ∙ simple_and_free))) c.in_ok-of-in-Err.ensures
