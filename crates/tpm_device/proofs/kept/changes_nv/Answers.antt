use Rattle.std.proofs.Common.{◌≡◌, rules}
use Rattle.tpm_model.specs.NvChanges.{changes_nv}
use Rattle.tpm_model.proofs.NvChanges.{told_exactly}
use Rattle.tpm_device.proofs.kept.changes_nv.Goals as goal

pub returns-then-is_success-clause-exact : goal.returns-then-is_success-clause-exact
returns-then-is_success-clause-exact c o h nonce e =
    let is : c.names_writer.result ≡ changes_nv c.args.command.now c.args.response.now = search rules in
    told_exactly o h c.args.command.now nonce c.args.response.now c.names_writer.result is e

pub returns-else-is_success-clause-exact : goal.returns-else-is_success-clause-exact
returns-else-is_success-clause-exact c o h nonce e =
    let is : c.is_success.result ≡ changes_nv c.args.command.now c.args.response.now = search rules in
    told_exactly o h c.args.command.now nonce c.args.response.now c.is_success.result is e
