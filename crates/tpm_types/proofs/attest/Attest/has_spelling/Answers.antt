use Rattle.std.proofs.Common.{refl, rules}
use Rattle.tpm_types.specs.Attest.{attest, generated, attest_type}
use Rattle.tpm_types.proofs.attest.Attest.has_spelling.Goals as goal

pub returns : goal.returns
unfolding attest generated attest_type
returns c left = (
  search rules,
  (
    search rules,
    (
      c.has_spelling.ensures _,
      (
        c.has_spelling-2.ensures _,
        (
          c.has_spelling-3.ensures.fits _,
          (c.has_spelling-4.ensures.fits 0, (c.has_spelling-5.ensures.fits _, refl)),
        ),
      ),
    ),
  ),
)
