use Rattle.std.proofs.Common.{length, ap, ◌∙◌}
use Rattle.std.specs.List.{flat_map}
use Rattle.tpm_hmac.specs.Hmac.{hmac}
use Rattle.tpm_hmac.specs.Keys.{Key}
use Rattle.tpm_hmac.proofs.DigestLengths.{length-hmac}
use Rattle.tpm_hmac.proofs.Precomputed.{by_sha1, by_sha256}
use Rattle.tpm_hmac.proofs.key.SessionKey.mac.Goals as goal

pub returns-in-Sha1 : goal.returns-in-Sha1
returns-in-Sha1 c =
    let precomputed = rw c.in-Sha1.is at c.self.invariant in
    let value = by_sha1 _ _ _ c.mac_sha1.result precomputed.0 (c.mac_sha1.ensures _ _ precomputed.1 precomputed.2)
    ∙ ap (λ (k : Key). hmac k.hash k.bytes (flat_map (λ p. p.now) c.args.parts.now)) c.self.view_is in
    record { value = value; len = ap length value ∙ length-hmac c.args.self.now.hash _ _ }

pub returns-in-Sha256 : goal.returns-in-Sha256
returns-in-Sha256 c =
    let precomputed = rw c.in-Sha256.is at c.self.invariant in
    let value = by_sha256 _ _ _ c.mac_sha256.result precomputed.0 (c.mac_sha256.ensures _ _ precomputed.1 precomputed.2)
    ∙ ap (λ (k : Key). hmac k.hash k.bytes (flat_map (λ p. p.now) c.args.parts.now)) c.self.view_is in
    record { value = value; len = ap length value ∙ length-hmac c.args.self.now.hash _ _ }
