use Rattle.std.proofs.Common.{ℕ, List, Option, ap, ◌∙◌}
use Rattle.std.specs.Option.{option_or}
use Rattle.tpm_types.specs.Handles.{kind_of}
use Rattle.tpm_output.specs.Named.{named_in, table_as}
use Rattle.tpm_show.specs.declared.handle_names.TheConstants.{KINDS}
use Rattle.tpm_show.specs.HandleNames.{handle_named}
use Rattle.tpm_show.proofs.handle_names.handle_name.Goals as goal

pub returns-in-Some : goal.returns-in-Some
unfolding handle_named
returns-in-Some c = ap (λ (o : Option (List ℕ)). option_or o (named_in (table_as KINDS) (kind_of c.args.handle))) c.in-Some.ensures

pub returns-in-None : goal.returns-in-None
unfolding handle_named
returns-in-None c = c.look_up-in-None.ensures
    ∙ ap (λ (o : Option (List ℕ)). option_or o (named_in (table_as KINDS) (kind_of c.args.handle))) c.in-None.ensures
