-- What a file is, by its first bytes, and what comes behind them.
use Rattle.std.specs.Prelude.{◌≡◌, ◌⊎◌, ◌≤◌, ℕ, List, [], length}
use Rattle.tpm_pcap.specs.declared.head.FileHead.{FileHead}
use Rattle.tpm_pcap.specs.declared.head.FileHead.TheVariants as head
use Rattle.tpm_pcap.specs.Files.{Traffic, NoCapture, OtherLink, Entries, left_told}

abbrev pub head_as : FileHead → List ℕ → Traffic
head_as head.NoCapture rest = NoCapture
head_as (head.OtherLink number) rest = OtherLink number
head_as (head.Packets file) rest = Entries (left_told file rest)

-- The bytes are 24, or all of a file.
abbrev pub IsHead : (head rest : List ℕ) → Type 0
IsHead head rest = (24 ≤ length head) ⊎ (rest ≡ [])

-- No packet of the file is told yet, of which so many bytes have come.
abbrev pub BeginsFile : (came : ℕ) → FileHead → Type 0
BeginsFile came (head.Packets file) = (file.reader.packet ≡ 1) × (length file.held ≤ came)
BeginsFile came _ = Unit {0}
