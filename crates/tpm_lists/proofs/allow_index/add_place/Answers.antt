use Rattle.std.proofs.Common.{sym, ◌∙◌}
use Rattle.tpm_lists.proofs.AllowFinding.{place_known}
use Rattle.tpm_lists.proofs.allow_index.add_place.Goals as goal

pub returns-then-has_place : goal.returns-then-has_place
returns-then-has_place c = λ before known.
    place_known before c.args.allowed.now c.args.places.now.items known c.hash-bank.result c.number-register.result c.as_slice.result.now
    c.hash-bank.ensures c.number-register.ensures.value c.as_slice.ensures.value (sym c.has_place.ensures ∙ c.if-has_place.true)
