use Rattle.std.proofs.Common.{◌≤◌, length, refl, rules}
use Rattle.tpm_types.specs.Limits.{digest_bytes}
use Rattle.tpm_c.proofs.kept.is_refused.Goals as goal

pub returns-in-Ok : goal.returns-in-Ok
returns-in-Ok c =
    let short : length c.args.owner.now ≤ digest_bytes = search rules in
    (short, (c.read_bytes.new.self, c.in-Ok.ensures), refl)
