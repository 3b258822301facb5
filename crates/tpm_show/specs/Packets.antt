-- What `show --pcap` prints: what went over a simulator's port, one after the other (this profile).
use Rattle.std.specs.Prelude.{◌≡◌, ◌⊎◌, ◌≤◌, ℕ, ◌+◌, false, List, [], ◌∷◌, ◌++◌, length, codes, Option, Some, OnSome}
use Rattle.std.specs.Io.KnownBytes.{Consumes, IsAtEnd}
use Rattle.tpm_pcap.specs.declared.entry.Reason.TheVariants.{CutShort, Fragment, SentAgain, OutOfOrder, NoMessage}
use Rattle.tpm_pcap.specs.declared.entry.Reason.TheVariants.{Malformed, UnknownLink, Unfinished}
use Rattle.tpm_pcap.specs.declared.entry.Reason.{Reason}
use Rattle.tpm_pcap.specs.declared.entry.Stamp.{Stamp}
use Rattle.tpm_pcap.specs.Entries.{Entry, Connection, Untold}
use Rattle.tpm_pcap.specs.Files.{Traffic, NoCapture, OtherLink, Entries, traffic_in}
use Rattle.tpm_output.specs.declared.status.Status.TheVariants.{Done, Refused}
use Rattle.tpm_output.specs.declared.status.Status.{Status}
use Rattle.tpm_show.specs.declared.capture_lines.Direction.TheVariants.{Command, Reply}
use Rattle.tpm_show.specs.declared.capture_frames.Awaited.TheVariants.{Nothing, Unknown}
use Rattle.tpm_show.specs.declared.capture_frames.Awaited.{Awaited}
use Rattle.tpm_show.specs.declared.passage.Passage.{Passage}
use Rattle.tpm_show.specs.declared.telling.Telling.{Telling}
use Rattle.tpm_show.specs.Capture.{Frame, CapturePlace, start, behind, TellsEach, TellsLine}
use Rattle.tpm_show.specs.Reports.{IsReport, fault_at_told, fault_told, link_fault, no_capture_told, no_packet}
use Rattle.tpm_show.specs.Reports.{packet_fault_told}
use Rattle.tpm_pcap.specs.Entries as went

-- ---- a packet that is not told

abbrev pub reason_text : Reason → List ℕ
reason_text CutShort = codes "not told, cut short"
reason_text Malformed = codes "not told, its block is malformed"
reason_text UnknownLink = codes "not told, its link is not known"
reason_text Fragment = codes "not told, a fragment"
reason_text SentAgain = codes "not told, sent again"
reason_text OutOfOrder = codes "not told, out of order"
reason_text NoMessage = codes "not told, no message begins where one should"
reason_text Unfinished = codes "a message before it did not come whole"

-- ---- what went over the port

-- Of what was sent again nothing is lost. Behind another packet that is not told it is not known which reply comes.
abbrev pub awaited_past : Reason → Awaited → Awaited
awaited_past SentAgain awaited = awaited
awaited_past _ awaited = Unknown

-- another connection
abbrev pub connected : Passage → Passage
connected p = record p { connection = p.connection + 1 }

-- The next frame ends in this packet.
abbrev pub among : CapturePlace → Stamp → CapturePlace
among p stamp = record p { passage = record { connection = p.passage.connection; stamp = Some stamp } }

-- Frames alone have numbers. A reply belongs to a command of its own connection.
abbrev pub behind_entry : CapturePlace → Entry → CapturePlace
behind_entry p Connection = record p { awaited = Nothing; passage = connected p.passage }
behind_entry p (went.Command stamp bytes) = behind (among p stamp) (Frame (Some Command) bytes)
behind_entry p (went.Reply stamp bytes) = behind (among p stamp) (Frame (Some Reply) bytes)
behind_entry p (Untold packet reason) = record p { awaited = awaited_past reason p.awaited }

-- A frame is told as that of a line with its mark.
abbrev pub TellsEntry : CapturePlace → Entry → Status → List ℕ → Type 0
TellsEntry p Connection status text = (status ≡ Done) × (text ≡ [])
TellsEntry p (went.Command stamp bytes) status text = TellsLine (among p stamp) (Frame (Some Command) bytes) status text
TellsEntry p (went.Reply stamp bytes) status text = TellsLine (among p stamp) (Frame (Some Reply) bytes) status text
TellsEntry p (Untold packet reason) status text =
    (status ≡ Refused) × IsReport p.how.form false (packet_fault_told packet (reason_text reason)) text

abbrev pub TellsEntries : CapturePlace → List Entry → Status → List ℕ → Type 0
TellsEntries p entries status text = TellsEach behind_entry TellsEntry p entries status text

-- ---- a file

abbrev pub TellsTraffic : (how : Telling) → (port : ℕ) → Traffic → Status → List ℕ → Type 0
TellsTraffic how port NoCapture status text = (status ≡ Refused) × IsReport how.form false no_capture_told text
TellsTraffic how port (OtherLink number) status text =
    (status ≡ Refused) × IsReport how.form false (fault_at_told (link_fault number) 20) text
TellsTraffic how port (Entries []) status text =
    (status ≡ Refused) × IsReport how.form false (fault_told (no_packet port)) text
TellsTraffic how port (Entries (first ∷ others)) status text = TellsEntries (start how) (first ∷ others) status text

-- For the bytes of a file, and the port of the simulator, this is the status and what is printed.
abbrev pub TellsPackets : (how : Telling) → (port : ℕ) → List ℕ → Status → List ℕ → Type 0
TellsPackets how port bytes status text = TellsTraffic how port (traffic_in port bytes) status text

-- 2^30
abbrev pub most_packets : ℕ
most_packets = 1073741824

-- This holds of the bytes of a file that were read, which are so many at most; and these are all, where the file tells
-- its bytes, or so many, or this holds whatever comes behind them.
pub record OfReadUpTo (most-read : ℕ) (old new : Option (List ℕ)) (Holds : List ℕ → Type 0) : Type 0 where
  pub bytes : List ℕ
  pub read : Consumes old new bytes
  pub most : length bytes ≤ most-read
  pub holds : Holds bytes
  pub whole : OnSome old (IsAtEnd new) ⊎ ((length bytes ≡ most-read) ⊎ ((more : List ℕ) → Holds (bytes ++ more)))
