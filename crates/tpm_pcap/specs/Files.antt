-- What a file tells: of libpcap's format (pcap-savefile(5)), or of pcapng (IETF draft-ietf-opsawg-pcapng).
use Rattle.std.specs.Prelude.{◌≡◌, ◌<◌, ◌≤◌, ℕ, zero, suc, ◌+◌, ◌*◌, ◌==◌, Bool, true, false}
use Rattle.std.specs.Result.{result_unwrap_or}
use Rattle.std.specs.Prelude.{List, [], ◌∷◌, ◌++◌, length, drop, Option, Some, None, Ok, Err, if◌then◌else◌}
use Rattle.tpm_pcap.specs.declared.entry.Stamp.{Stamp}
use Rattle.tpm_pcap.specs.declared.file.Format.TheVariants.{Savefile, Pcapng}
use Rattle.tpm_pcap.specs.declared.file.Format.{Format}
use Rattle.tpm_pcap.specs.declared.link.Link.{Link}
use Rattle.tpm_pcap.specs.declared.numbers.Order.{Order}
use Rattle.tpm_pcap.specs.declared.savefile.Header.{Header}
use Rattle.tpm_pcap.specs.Blocks.{Block, Describes, Captured, Simple, Other, Framed, Packet, Read}
use Rattle.tpm_pcap.specs.Entries.{Entry, Untold}
use Rattle.tpm_pcap.specs.Links.{link_of}
use Rattle.tpm_pcap.specs.Numbers.{Fields}
use Rattle.tpm_pcap.specs.Pcapng.{block_in}
use Rattle.tpm_pcap.specs.Savefiles.{record_in}
use Rattle.tpm_pcap.specs.Sections.{Section, new_section, with_interface, packet_time, simple_packet}
use Rattle.tpm_pcap.specs.Sections.{carried_of}
use Rattle.tpm_pcap.specs.Talks.{Talk, new_talk, after_carried, unfinished}
use Rattle.tpm_pcap.specs.Blocks as blocks
use Rattle.tpm_pcap.specs.Pcapng as pcapng
use Rattle.tpm_pcap.specs.Savefiles as savefile

-- ---- how far a file has been read

-- the simulator's port, the section, the connection that is told, and the number of the next packet
pub record Reader : Type 0 where
  pub port : ℕ
  pub section : Section
  pub talk : Talk
  pub packet : ℕ

abbrev pub reader_of : (port : ℕ) → Section → Reader
reader_of port s = record { port = port; section = s; talk = new_talk; packet = 1 }

-- ---- a block: what comes of the reader, and what is told

abbrev pub packet_stamp : Reader → Packet → Stamp
packet_stamp r p = record { packet = r.packet; time = packet_time r.section p }

abbrev pub after_packet : Reader → Packet → Reader × List Entry
after_packet r p = let t = after_carried (packet_stamp r p) r.talk (carried_of r.port r.section p) in
    (record r { talk = t.0; packet = r.packet + 1 }, t.1)

-- A new section has interfaces of its own.
abbrev pub after_block : Reader → Block → Reader × List Entry
after_block r (blocks.Section order) = (record r { section = new_section order }, [])
after_block r (Describes interface) = (record r { section = with_interface r.section interface }, [])
after_block r (Captured p) = after_packet r p
after_block r (Simple size bytes) = after_packet r (simple_packet r.section size bytes)
after_block r Other = (r, [])

-- ---- blocks

abbrev pub next_in : Format → Order → List ℕ → Read
next_in Savefile order bytes = record_in order bytes
next_in Pcapng order bytes = block_in order bytes

abbrev pub ended : Reader → List Entry
ended r = unfinished r.packet r.talk

-- a block and those behind it, or that the next packet is not told, and why
abbrev pub read_told : Reader → Read → (others : Reader → (size : ℕ) → List Entry) → List Entry
read_told r (Err reason) others = Untold r.packet reason ∷ ended r
read_told r (Ok b) others = let after = after_block r b.block in after.1 ++ others after.0 b.size

-- The blocks from here. There are no more of them than bytes.
abbrev pub entries_from : Format → (most : ℕ) → Reader → List ℕ → List Entry
entries_from format zero r bytes = ended r
entries_from format (suc most) r bytes =
    if length bytes == 0 then ended r
    else read_told r (next_in format r.section.order bytes)
    (λ after size. entries_from format most after (drop size bytes))

abbrev pub blocks_told : Format → Reader → List ℕ → List Entry
blocks_told format r bytes = entries_from format (length bytes) r bytes

abbrev pub entries_of : (port : ℕ) → Format → Section → List ℕ → List Entry
entries_of port format s bytes = blocks_told format (reader_of port s) bytes

-- ---- a file

-- what went over the port, if the file tells: it is no capture, or of a kind of link that is not known
pub data Traffic : Type 0 where
  NoCapture : Traffic
  OtherLink : (number : ℕ) → Traffic
  Entries : List Entry → Traffic

-- libpcap's: behind its header, on the one interface of its kind of link
abbrev pub on_link : Header → Link → Section
on_link header link = with_interface (new_section header.order)
    (record { link = Some link; limit = 0; per_second = header.per_second })

abbrev pub savefile_over : (port : ℕ) → Header → Option Link → List ℕ → Traffic
savefile_over port header None packets = OtherLink header.link
savefile_over port header (Some link) packets = Entries (entries_of port Savefile (on_link header link) packets)

abbrev pub savefile_by : (port : ℕ) → Fields Header → Traffic
savefile_by port (Err reason) = NoCapture
savefile_by port (Ok header) = savefile_over port header.0 (link_of header.0.link) header.1

abbrev pub savefile_traffic : (port : ℕ) → List ℕ → Traffic
savefile_traffic port bytes = savefile_by port (savefile.header_in bytes)

-- pcapng's, whose first block begins a section
abbrev pub traffic_by : (port : ℕ) → Option Order → List ℕ → Traffic
traffic_by port None bytes = savefile_traffic port bytes
traffic_by port (Some order) bytes = Entries (entries_of port Pcapng (new_section order) bytes)

-- on the port of a simulator
abbrev pub traffic_in : (port : ℕ) → List ℕ → Traffic
traffic_in port bytes = traffic_by port (result_unwrap_or (pcapng.order_of bytes) None) bytes

-- ---- a file that comes in pieces

-- what has come of the next block, behind those that were told
pub record FilePlace : Type 0 where
  pub format : Format
  pub reader : Reader
  pub held : List ℕ

-- what is told where these bytes are all that come
abbrev pub left_told : FilePlace → List ℕ → List Entry
left_told f rest = blocks_told f.format f.reader (f.held ++ rest)

-- No block tells more: each byte of a segment, which are fewer than 2^16, ends a message at most, and besides them a
-- message that did not come whole, another connection and what is wrong with the segment are told.
abbrev pub most_told : ℕ
most_told = 65539

-- a piece, and what was told of it
pub record Piece : Type 0 where
  pub old : FilePlace
  pub piece : List ℕ
  pub new : FilePlace
  pub told : List Entry

-- What is told of a file is what was told, and what is told from there on.
pub record Goes (p : Piece) : Type 0 where
  pub some : 0 < length p.piece
  pub left : (rest : List ℕ) → left_told p.old (p.piece ++ rest) ≡ p.told ++ left_told p.new rest
  pub few : length p.told + most_told * length p.new.held ≤ most_told * (length p.old.held + length p.piece)
  pub number : p.new.reader.packet + length p.new.held ≤ p.old.reader.packet + length p.old.held + length p.piece

-- So it goes on, or no more is told, and no bytes are the end of it.
abbrev pub TakesPiece : Piece → (more : Bool) → Type 0
TakesPiece p true = Goes p
TakesPiece p false = ((rest : List ℕ) → (p.piece ≡ [] → rest ≡ []) → left_told p.old (p.piece ++ rest) ≡ p.told)
    × (length p.told ≤ most_told * (length p.old.held + length p.piece) + 2)
