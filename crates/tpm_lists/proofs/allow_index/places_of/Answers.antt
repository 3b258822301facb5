use Rattle.std.proofs.Common.{List, sym, subst, take}
use Rattle.tpm_vouched.specs.declared.allowed.AllowedDigest.{AllowedDigest}
use Rattle.tpm_lists.specs.inner.AllowIndex.{ArePlaces}
use Rattle.tpm_lists.proofs.AllowFinding.{next}
use Rattle.tpm_lists.proofs.allow_index.places_of.Goals as goal

pub loop-allowed-preserved : goal.loop-allowed-preserved
loop-allowed-preserved c =
    let l = c.loop-allowed in
    let digests = c.args.digests.now in
    subst (λ (ds : List AllowedDigest). ArePlaces ds c.add_place.new.places.items)
    (sym (next digests l.allowed-index c.allowed-item.result c.allowed-item.is c.loop-allowed-test.true))
    (c.in_ok-add_place.ensures (take l.allowed-index digests) l.invariant)
