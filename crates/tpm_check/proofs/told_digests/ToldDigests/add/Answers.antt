use Rattle.std.proofs.Common.{ℕ, List, ap, ◌∙◌, map}
use Rattle.std.specs.Borrow.{Bor}
use Rattle.std.specs.List.{list_any}
use Rattle.std.specs.Prelude.{not, ◌||◌}
use Rattle.std.specs.Str.{bytes_eq}
use Rattle.tpm_check.proofs.Digests.{added, is_there}
use Rattle.tpm_check.proofs.told_digests.ToldDigests.add.Goals as goal

pub returns-clause-new : goal.returns-clause-new
returns-clause-new c =
    c.in_ok-new.ensures.added
    ∙ ap not (is_there c.args.digest c.self.inside.digests.keys ∙ ap (list_any (bytes_eq c.args.digest.now)) c.self.view_is)

pub returns-clause-all : goal.returns-clause-all
returns-clause-all c other =
    ap (λ (ks : List (Bor (List ℕ))). list_any (bytes_eq other) (map (λ (k : Bor (List ℕ)). k.now) ks)) c.in_ok-new.ensures.keys
    ∙ (added other c.args.digest c.self.inside.digests.keys
    ∙ ap (λ (told : List (List ℕ)). bytes_eq other c.args.digest.now || list_any (bytes_eq other) told) c.self.view_is)
