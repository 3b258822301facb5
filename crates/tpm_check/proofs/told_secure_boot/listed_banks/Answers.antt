use Rattle.std.proofs.Common.{rules}
use Rattle.arrayvec.proofs.ArrayVecLemmas.{filter-from_retain}
use Rattle.tpm_types.specs.declared.alg.Alg.{Alg}
use Rattle.tpm_types.specs.Alg.{alg_number}
use Rattle.tpm_log.specs.Headers.{is_listed}
use Rattle.tpm_check.proofs.told_secure_boot.listed_banks.Goals as goal

pub returns : goal.returns
returns c =
    let listed = λ (bank : Alg). is_listed (alg_number bank) c.args.log.now.hashes in
    let kept = filter-from_retain _ listed _ (λ x b f' y called. search rules) _ _ c.retain.ensures.filtered in
    rw c.from-listed.ensures.0 at kept
