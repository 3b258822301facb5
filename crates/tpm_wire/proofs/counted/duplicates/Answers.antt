use Rattle.std.proofs.Common.{◌≡◌, ℕ, ◌+◌, ◌<◌, List, [], ◌∷◌, ◌++◌, length, take, get_or, refl}
use Rattle.std.proofs.lemmas.List.{take_more}
use Rattle.tpm_wire.proofs.counted.duplicates.Goals as goal

one_more : {A : Type 0} (xs found now : List A) (i : ℕ) (x y : A) → now ≡ found ++ (y ∷ []) → found ≡ take i xs → y ≡ x → i < length xs
    → x ≡ get_or xs i x → now ≡ take (i + 1) xs
one_more xs found now i x y pushed so_far same lt is = rw (take_more xs i x lt, ← is, pushed, so_far, same) refl

pub loop-entry-preserved : goal.loop-entry-preserved
loop-entry-preserved g c =
    one_more c.args.entries.now c.loop-entry.found.items c.push.new.self.items c.loop-entry.entry-index c.entry-item.result c.duplicate.result
    c.push.ensures.items c.loop-entry.invariant c.duplicate.ensures c.loop-entry-test.true c.entry-item.is
