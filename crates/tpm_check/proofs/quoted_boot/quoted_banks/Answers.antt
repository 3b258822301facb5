use Rattle.std.proofs.Common.{rules}
use Rattle.arrayvec.proofs.ArrayVecLemmas.{filter-from_retain}
use Rattle.tpm_types.specs.declared.alg.Alg.{Alg}
use Rattle.tpm_quote.specs.Attests.{is_among, register_of}
use Rattle.tpm_check.proofs.quoted_boot.quoted_banks.Goals as goal

pub returns : goal.returns
returns c =
    let selected = λ (bank : Alg). is_among c.args.selections.now (register_of bank 7) in
    let kept = filter-from_retain _ selected _ (λ x b f' y called. search rules) _ _ c.retain.ensures.filtered in
    rw c.from-quoted.ensures.0 at kept
