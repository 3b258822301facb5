use Rattle.std.proofs.Common.{◌≡◌, ◌+◌, ◌<◌, ◌++◌, List, ℕ, true, false, length, take, drop, get_or, [], ◌∷◌, sym, subst, arith, rules}
use Rattle.std.proofs.lemmas.List.{append-nil, take_all, take_more, take-append-drop}
use Rattle.tpm_output.specs.inner.LineReading.{Feeds}
use Rattle.tpm_output.proofs.Joins.{joins_texts}
use Rattle.tpm_output.proofs.LineReading.{feeds_both, feeds_further, feeds_none}
use Rattle.tpm_output.proofs.input_lines.LineReader.feed.Goals as goal

pub loop-byte-init : goal.loop-byte-init
loop-byte-init g c =
    let S = g.S.LineSink in
    record { added = []; is = sym (append-nil _); feeds = feeds_none S.limits S.takes S.is_at c.args.self.now c.requires.at }

pub returns-then-not-branch : goal.returns-then-not-branch
returns-then-not-branch g c =
    let S = g.S.LineSink in
    let i = c.loop-byte.byte-index in
    let piece = c.args.piece.now in
    let within : i < length piece = omega arith in
    let is : c.in_ok-take.field-0 ≡ false = search rules in
    let before = c.loop-byte.invariant in
    let one = rw is at c.in_ok-take.ensures in
    let both = feeds_both S.limits S.takes S.is_at false c.args.self.now c.loop-byte.self c.take.new.self (take i piece) (get_or piece i 0 ∷ [])
    before.added one.0 before.feeds one.2 in
    let so_far = subst (λ (bytes : List ℕ). Feeds S.limits S.takes S.is_at false c.args.self.now c.take.new.self bytes (before.added ++ one.0))
    (sym (take_more piece i 0 within)) both in (
      before.added ++ one.0,
      joins_texts _ _ _ before.added one.0 before.is one.1,
      subst (λ (bytes : List ℕ). Feeds S.limits S.takes S.is_at false c.args.self.now c.take.new.self bytes (before.added ++ one.0))
          (take-append-drop (i + 1) piece)
          (feeds_further S.limits S.takes S.is_at c.args.self.now c.take.new.self (take (i + 1) piece) (drop (i + 1) piece) (before.added ++ one.0) so_far),
    )

pub loop-byte-preserved : goal.loop-byte-preserved
loop-byte-preserved g c =
    let S = g.S.LineSink in
    let i = c.loop-byte.byte-index in
    let piece = c.args.piece.now in
    let within : i < length piece = omega arith in
    let is : c.in_ok-take.field-0 ≡ true = search rules in
    let before = c.loop-byte.invariant in
    let one = rw is at c.in_ok-take.ensures in
    record {
      added = before.added ++ one.0;
      is = joins_texts _ _ _ before.added one.0 before.is one.1;
      feeds = subst (λ (bytes : List ℕ). Feeds S.limits S.takes S.is_at true c.args.self.now c.take.new.self bytes (before.added ++ one.0))
          (sym (take_more piece i 0 within))
          (feeds_both S.limits S.takes S.is_at true c.args.self.now c.loop-byte.self c.take.new.self (take i piece) (get_or piece i 0 ∷ [])
          before.added one.0 before.feeds one.2);
    }

pub returns : goal.returns
returns g c =
    let S = g.S.LineSink in
    let before = c.loop-byte.invariant in
    let whole : take c.loop-byte.byte-index c.args.piece.now ≡ c.args.piece.now = take_all c.loop-byte.byte-index c.args.piece.now (omega arith) in (
      before.added,
      before.is,
      subst (λ (bytes : List ℕ). Feeds S.limits S.takes S.is_at true c.args.self.now c.loop-byte.self bytes before.added) whole before.feeds,
    )
