use Rattle.tpm_types.specs.Limits.{block_bytes}
use Rattle.tpm_hmac.proofs.Filling.{fill_both}
use Rattle.tpm_hmac.proofs.mac.fill.Goals as goal

pub returns : goal.returns
returns c = fill_both block_bytes c.args.front.now c.args.back.now c.put.new.out c.put-2.new.out c.requires c.put.ensures c.put-2.ensures
