-- What holds of each hash, by looking at all of them: another hash changes nothing here.
use Rattle.std.proofs.Common.{◌≡◌, ℕ, ◌≤◌, ◌<◌, sym, ◌∙◌, arith}
use Rattle.std.proofs.lemmas.Bool.Decides.{nat_tests}
use Rattle.std.proofs.lemmas.List.FromFn.{get_or-range_with_len}
use Rattle.std.proofs.lemmas.List.{get_or-map}
use Rattle.std.specs.Prelude.{◌==◌, slice_index_or}
use Rattle.tpm_types.specs.declared.alg.Alg.{Alg}
use Rattle.tpm_types.specs.Alg.{alg_number, digest_len, block_len, all_algs, bank_place}
use Rattle.tpm_types.specs.Limits.{banks, digest_bytes, block_bytes}

pub digest_some : (a : Alg) → 0 < digest_len a
digest_some a = grind arith

pub digest_most : (a : Alg) → digest_len a ≤ digest_bytes
digest_most a = grind arith

-- a digest takes no more than a block
pub digest_fits : (a : Alg) → digest_len a ≤ block_len a
digest_fits a = grind arith

pub block_most : (a : Alg) → block_len a ≤ block_bytes
block_most a = grind arith

-- a bank has a place of its own
pub same_bank : (a b : Alg) → bank_place a ≡ bank_place b → a ≡ b
same_bank a b e = grind arith

-- a bank is known by its number as by its place
pub same_test : (a b : Alg) → (alg_number b == alg_number a) ≡ (bank_place b == bank_place a)
same_test a b = grind (arith, nat_tests)

-- the banks stand in the list by their places
pub bank_at : (i : ℕ) (d : Alg) → i < banks → bank_place (slice_index_or all_algs i d) ≡ i
bank_at i d lt = sym (get_or-map bank_place all_algs i d 0 lt) ∙ get_or-range_with_len 0 banks i 0 lt ∙ omega arith
