use Rattle.std.proofs.Common.{◌≡◌, ◌∙◌, rules, tests, bytes_eq}
use Rattle.std.proofs.lemmas.Iterator.Search.{position_from_yields_List}
use Rattle.std.proofs.lemmas.Iterator.{YieldsList-from_slice}
use Rattle.tpm_lists.specs.ListLines.{register_named}
use Rattle.tpm_lists.proofs.Registers.{named-below, named-is}
use Rattle.tpm_lists.proofs.stated.number_named.Goals as goal

pub returns-clause-place : goal.returns-clause-place
returns-clause-place c =
    position_from_yields_List (λ name. bytes_eq name.now c.args.word.now) _ _ c.position.result c.position.ensures.ran
    (YieldsList-from_slice _ c.iter.ensures.rest) (λ x b q k. search (rules, tests))
    ∙ named-is c.args.word.now

pub returns-clause-below : goal.returns-clause-below
returns-clause-below c =
    let found : c.position.result ≡ register_named c.args.word.now =
    position_from_yields_List (λ name. bytes_eq name.now c.args.word.now) _ _ c.position.result c.position.ensures.ran
    (YieldsList-from_slice _ c.iter.ensures.rest) (λ x b q k. search (rules, tests))
    ∙ named-is c.args.word.now in
    named-below c.position.result c.args.word.now found
