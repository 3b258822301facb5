-- A file's reader, as the code holds it, and what it takes of the blocks that have come.
use Rattle.std.specs.Prelude.{◌≡◌, ◌≤◌, ℕ, ◌+◌, ◌*◌, Bool, true, false, not, List, [], ◌++◌, length, drop}
use Rattle.std.specs.Prelude.{Option, Some, None}
use Rattle.tpm_pcap.specs.declared.entry.Reason.TheVariants.{CutShort}
use Rattle.tpm_pcap.specs.declared.entry.Reason.{Reason}
use Rattle.tpm_pcap.specs.declared.file.Format.{Format}
use Rattle.tpm_pcap.specs.Entries.{Entry}
use Rattle.tpm_pcap.specs.declared.file.Reader.{Reader as RustReader}
use Rattle.tpm_pcap.specs.inner.Sections.{section_as}
use Rattle.tpm_pcap.specs.inner.Talks.{talk_as}
use Rattle.tpm_pcap.specs.Files.{Reader, blocks_told, most_told}

abbrev pub reader_as : RustReader → Reader
reader_as r = record { port = r.port; section = section_as r.section; talk = talk_as r.talk; packet = r.packet }

-- blocks that have come, of which these may be the last, and what was told of them
pub record Come : Type 0 where
  pub format : Format
  pub old : Reader
  pub bytes : List ℕ
  pub last : Bool
  pub new : Reader
  pub told : List Entry

-- So many bytes are told.
pub record GoesOn (c : Come) (used : ℕ) : Type 0 where
  pub fits : used ≤ length c.bytes
  pub left : (rest : List ℕ) → blocks_told c.format c.old (c.bytes ++ rest)
      ≡ c.told ++ blocks_told c.format c.new (drop used c.bytes ++ rest)
  pub few : length c.told ≤ most_told * used
  pub number : c.new.packet ≤ c.old.packet + used

-- What is cut short may go on, where it isn't the last.
abbrev pub may_go_on : (last : Bool) → Reason → Bool
may_go_on last CutShort = not last
may_go_on last _ = false

-- So many are, and more may come; or no more is told.
abbrev pub TakesBlocks : Come → Option ℕ → Type 0
TakesBlocks c (Some used) = (c.last ≡ false) × GoesOn c used
TakesBlocks c None =
    ((rest : List ℕ) → (c.last ≡ true → rest ≡ []) → blocks_told c.format c.old (c.bytes ++ rest) ≡ c.told)
    × (length c.told ≤ most_told * length c.bytes + 2)
