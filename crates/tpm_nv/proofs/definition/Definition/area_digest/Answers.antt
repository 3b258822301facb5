use Rattle.std.proofs.Common.{ap, ◌∙◌}
use Rattle.tpm_types.specs.declared.tpms.NvPublic.{NvPublic}
use Rattle.tpm_hmac.specs.Hashes.{digest}
use Rattle.tpm_nv.proofs.Memory.{area_is}
use Rattle.tpm_nv.proofs.definition.Definition.area_digest.Goals as goal

pub returns : goal.returns
returns c =
    let d = c.self.inside in
    let p : NvPublic = record { index = d.index; alg = d.alg; attrs = d.attrs; policy = d.policy; data_size = 8 } in
    rw (← c.self.view_is) (c.hash.ensures.value ∙ ap (digest p.alg)
    (area_is p c.to_be_bytes.result c.to_be_bytes-2.result c.to_be_bytes-3.result c.to_be_bytes-4.result c.as_slice-policy.result.now
    c.to_be_bytes-5.result
    (rw c.number.ensures.value at c.to_be_bytes.ensures) (rw c.number-2.ensures at c.to_be_bytes-2.ensures)
    (rw c.number-3.ensures.value at c.to_be_bytes-3.ensures)
    (rw c.as_slice-policy.ensures.value at c.to_be_bytes-4.ensures) c.as_slice-policy.ensures.value c.to_be_bytes-5.ensures))
