use Rattle.std.proofs.Common.{refl, ap, ◌∙◌}
use Rattle.tpm_c.specs.KeptDevices.{hash_of}
use Rattle.tpm_c.proofs.KeptDevices.{session_is}
use Rattle.tpm_c.proofs.kept.session_hash.Goals as goal

pub returns-in-Some : goal.returns-in-Some
returns-in-Some c = (
  refl,
  λ o h stands. c.number.ensures ∙ ap hash_of c.session_hash.ensures
      ∙ session_is o h c.args.device.now c.args.session c.in-Some.session c.from_number.result stands c.from_number.ensures c.in-Some.is,
)
