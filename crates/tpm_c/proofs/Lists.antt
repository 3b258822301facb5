-- A list of registers or of digests takes few bytes, and is read alike whatever is behind it.
use Rattle.tpm_wire.proofs.Longer.{TakesAtMost, at_most_sized_bytes, at_most_counted}
use Rattle.tpm_types.specs.Limits.{digest_bytes, banks}
use Rattle.tpm_types.specs.Tpms.{selection}
use Rattle.tpm_types.specs.Tpm2b.{digest}
use Rattle.tpm_types.specs.Tpml.{most_digests, selections, or_digests}
use Rattle.tpm_types.proofs.Short.{of_selection}

pub of_selections : TakesAtMost 22 selections
of_selections = at_most_counted 0 banks 6 selection of_selection

pub of_or_digests : TakesAtMost 404 or_digests
of_or_digests = at_most_counted 2 most_digests 50 digest (at_most_sized_bytes digest_bytes)
