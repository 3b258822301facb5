-- How far what went over a port has been told.
use Rattle.std.specs.Prelude.{◌≡◌, ℕ, ◌+◌, ◌*◌, ◌≤◌, List, ◌++◌, fold, length}
use Rattle.tpm_pcap.specs.Entries.{Entry}
use Rattle.tpm_pcap.specs.Files.{FilePlace, left_told, most_told}
use Rattle.tpm_output.specs.declared.status.Status.{Status}
use Rattle.tpm_output.specs.Status.{both}
use Rattle.tpm_show.specs.declared.capture.Capture.{Capture}
use Rattle.tpm_show.specs.inner.Capturing.{place}
use Rattle.tpm_show.specs.Packets.{behind_entry, TellsEntry, TellsEntries}

-- This was told.
pub record TellsOne (e : Entry) (old new : Capture) (Added : List ℕ → Type 0) : Type 0 where
  pub status : Status
  pub text : List ℕ
  pub tells : TellsEntry (place old) e status text
  pub added : Added text
  pub place : place new ≡ behind_entry (place old) e
  pub all : new.status ≡ both old.status status

-- These were told, one after the other.
pub record TellsMany (entries : List Entry) (old new : Capture) (Added : List ℕ → Type 0) : Type 0 where
  pub status : Status
  pub text : List ℕ
  pub tells : TellsEntries (place old) entries status text
  pub added : Added text
  pub place : place new ≡ fold behind_entry (place old) entries
  pub all : new.status ≡ both old.status status
  pub number : new.number ≤ old.number + length entries
  pub connection : new.passage.connection ≤ old.passage.connection + length entries

-- two states of a file, the bytes that came between them, and what was told of them
pub record Taken : Type 0 where
  pub first : FilePlace
  pub bytes : List ℕ
  pub last : FilePlace
  pub told : List Entry

-- What went over the port in these bytes was told.
pub record TellsSoFar (t : Taken) (old new : Capture) (Added : List ℕ → Type 0) : Type 0 where
  pub left : (rest : List ℕ) → left_told t.first (t.bytes ++ rest) ≡ t.told ++ left_told t.last rest
  pub few : length t.told + most_told * length t.last.held ≤ most_told * (length t.first.held + length t.bytes)
  pub number : t.last.reader.packet + length t.last.held ≤ t.first.reader.packet + length t.first.held + length t.bytes
  pub tells : TellsMany t.told old new Added
