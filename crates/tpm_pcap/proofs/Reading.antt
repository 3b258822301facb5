-- The blocks of a file, one by one.
use Rattle.std.proofs.Common.{◌≡◌, ℕ, ◌+◌, ◌≤◌, true, false, List, ◌∷◌, ◌++◌, length, drop, refl, arith, append_assoc}
use Rattle.std.specs.Prelude.{zero, suc, ◌==◌, Ok, Err}
use Rattle.tpm_pcap.specs.declared.entry.Reason.{Reason}
use Rattle.tpm_pcap.specs.declared.file.Format.{Format}
use Rattle.tpm_pcap.specs.Blocks.{Block, Section, Describes, Captured, Simple, Other, Framed}
use Rattle.tpm_pcap.specs.Entries.{Entry, Untold}
use Rattle.tpm_pcap.specs.Files.{Reader, after_block, ended, entries_from, next_in}

-- What comes of the blocks is what comes of the first, and then of the others.
pub record Goes (format : Format) (most : ℕ) (r : Reader) (bytes : List ℕ) (b : Framed) : Type 0 where
  pub fewer : ℕ
  pub most_is : most ≡ fewer + 1
  pub told : entries_from format most r bytes
      ≡ (after_block r b.block).1 ++ entries_from format fewer (after_block r b.block).0 (drop b.size bytes)

pub goes : (format : Format) (most : ℕ) (r : Reader) (bytes : List ℕ) (b : Framed) → length bytes ≤ most → (length bytes == 0) ≡ false
    → next_in format r.section.order bytes ≡ Ok b → Goes format most r bytes b
goes format zero r bytes b le some is = absurd (grind (arith, le, some))
goes format (suc most) r bytes b le some is = record { fewer = most; most_is = omega arith; told = rw (some, is) refl }

pub stops : (format : Format) (most : ℕ) (r : Reader) (bytes : List ℕ) (reason : Reason) → length bytes ≤ most → (length bytes == 0) ≡ false
    → next_in format r.section.order bytes ≡ Err reason → entries_from format most r bytes ≡ Untold r.packet reason ∷ ended r
stops format zero r bytes reason le some is = absurd (grind (arith, le, some))
stops format (suc most) r bytes reason le some is = rw (some, is) refl

pub ends : (format : Format) (most : ℕ) (r : Reader) (bytes : List ℕ) → (length bytes == 0) ≡ true → entries_from format most r bytes ≡ ended r
ends format zero r bytes none = refl
ends format (suc most) r bytes none = rw none refl

-- What was added, and what is still to come.
pub added : (before told rest whole after : List Entry) → after ≡ before ++ told → before ++ (told ++ rest) ≡ whole → after ++ rest ≡ whole
added before told rest whole after is same = rw (is, append_assoc before told rest) same

-- A block has one packet at most.
pub at_most_one : (r : Reader) (b : Block) → (after_block r b).0.packet ≤ r.packet + 1
at_most_one r (Section order) = omega arith
at_most_one r (Describes interface) = omega arith
at_most_one r (Captured p) = omega arith
at_most_one r (Simple size bytes) = omega arith
at_most_one r Other = omega arith
