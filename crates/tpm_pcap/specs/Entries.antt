-- What went over a simulator's port.
use Rattle.std.specs.Prelude.{ℕ, Bool, true, false, List, map}
use Rattle.tpm_pcap.specs.declared.entry.Entry.{Entry as RustEntry}
use Rattle.tpm_pcap.specs.declared.entry.Reason.{Reason}
use Rattle.tpm_pcap.specs.declared.entry.Stamp.{Stamp}
use Rattle.tpm_pcap.specs.declared.entry.Entry.TheVariants as rust

-- another connection; a command, and the packet in which it ends; a response, likewise; a packet, by its number from 1,
-- that is not told
pub data Entry : Type 0 where
  Connection : Entry
  Command : Stamp → List ℕ → Entry
  Reply : Stamp → List ℕ → Entry
  Untold : (packet : ℕ) → Reason → Entry

abbrev pub entry_as : RustEntry → Entry
entry_as rust.Connection = Connection
entry_as (rust.Command stamp bytes) = Command stamp bytes.items
entry_as (rust.Reply stamp bytes) = Reply stamp bytes.items
entry_as (rust.Untold packet reason) = Untold packet reason

abbrev pub entries_as : List RustEntry → List Entry
entries_as entries = map entry_as entries

abbrev pub frame_entry : (to_tpm : Bool) → Stamp → List ℕ → Entry
frame_entry true stamp bytes = Command stamp bytes
frame_entry false stamp bytes = Reply stamp bytes
