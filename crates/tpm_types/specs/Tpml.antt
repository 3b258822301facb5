-- Counted lists: TPML (Part 2, 10.9).
use Rattle.std.specs.Prelude.{ℕ, List}
use Rattle.tpm_wire.specs.Buffers.{Layout}
use Rattle.tpm_wire.specs.Structures.{counted}
use Rattle.tpm_types.specs.Limits.{banks}
use Rattle.tpm_types.specs.Tpm2b.{digest}
use Rattle.tpm_types.specs.Tpms.{selection}
use Rattle.tpm_types.specs.Tpmt.{digest_value}
use Rattle.tpm_types.specs.declared.alg.Alg.{Alg}
use Rattle.tpm_types.specs.declared.tpms.Selection.{Selection}

-- TPML_PCR_SELECTION (10.9.7)
abbrev pub selections : Layout (List Selection)
selections = counted 0 banks selection

-- how many digests a list has at most
abbrev pub most_digests : ℕ
most_digests = 8

-- TPML_DIGEST (10.9.5), as responses have it
abbrev pub digests : Layout (List (List ℕ))
digests = counted 0 most_digests digest

-- the same in TPM2_PolicyOR (Part 3, 23.6), which has two at least
abbrev pub or_digests : Layout (List (List ℕ))
or_digests = counted 2 most_digests digest

-- TPML_DIGEST_VALUES (10.9.6)
abbrev pub digest_values : Layout (List (Alg × List ℕ))
digest_values = counted 0 banks digest_value
