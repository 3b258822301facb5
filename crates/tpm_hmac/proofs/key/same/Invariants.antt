use Rattle.std.proofs.Common.{◌≡◌, length}
use Rattle.std.specs.Slice.Iter.{iter_rest}
use Rattle.tpm_hmac.proofs.key.same.Given as goal

abbrev pub invariant-loop-x : goal.invariant-loop-x
invariant-loop-x l = record {
  long : length (iter_rest l.x-iterator.a) ≡ length (iter_rest l.x-iterator.b);
  differ : l.a ≡ l.b → (l.differences ≡ 0) × (iter_rest l.x-iterator.a ≡ iter_rest l.x-iterator.b);
  same : l.differences ≡ 0 → iter_rest l.x-iterator.a ≡ iter_rest l.x-iterator.b → l.a ≡ l.b;
}
