use Rattle.std.proofs.Common.{◌≡◌, ℕ, ◌+◌, ◌<◌, List, length, take, get_or, All}
use Rattle.std.proofs.lemmas.List.{take_more}
use Rattle.std.proofs.lemmas.List.Elements.{All-push}
use Rattle.tpm_wire.specs.Spelling.{IsSpelled}
use Rattle.tpm_wire.proofs.counted.known_list.Goals as goal

one_more : {A : Type 0} (P : A → Type 0) (xs : List A) (i : ℕ) (x : A) → All P (take i xs) → P x → i < length xs → x ≡ get_or xs i x
    → All P (take (i + 1) xs)
one_more P xs i x so_far one lt is = rw (take_more xs i x lt, ← is) (All-push P (take i xs) x so_far one)

pub loop-entry-preserved : goal.loop-entry-preserved
loop-entry-preserved g c =
    let one = c.has_spelling.ensures in
    one_more (IsSpelled g.T.Wire.layout) c.args.entries.now c.loop-entry.entry-index c.entry-item.result c.loop-entry.invariant
    (record { fits = one.fits; some = one.some }) c.loop-entry-test.true c.entry-item.is
