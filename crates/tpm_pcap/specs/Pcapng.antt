-- The blocks of a pcapng file (IETF draft-ietf-opsawg-pcapng, "PCAP Now Generic (pcapng) Capture File Format").
use Rattle.std.specs.Prelude.{ℕ, ◌-◌, ◌%◌, ◌==◌, ◌&&◌, nat_lt, not, Bool, List, Option, Some, None, Result, Ok, Err}
use Rattle.std.specs.Prelude.{unwrap_or, if◌then◌else◌}
use Rattle.std.specs.Int.{w16, w32}
use Rattle.tpm_pcap.specs.declared.block.Ticks.TheVariants.{Units}
use Rattle.tpm_pcap.specs.declared.entry.Reason.TheVariants.{Malformed}
use Rattle.tpm_pcap.specs.declared.entry.Reason.{Reason}
use Rattle.tpm_pcap.specs.declared.numbers.Order.TheVariants.{Big, Little}
use Rattle.tpm_pcap.specs.declared.numbers.Order.{Order}
use Rattle.tpm_pcap.specs.Blocks.{Block, Section, Describes, Captured, Simple, Other, Read}
use Rattle.tpm_pcap.specs.Links.{link_of}
use Rattle.tpm_pcap.specs.Numbers.{◌>>=◌, cut, field}
use Rattle.tpm_pcap.specs.Options.{per_second_in}

-- ---- Section Header Block: its type, which is the same in either order, its length, and Byte-Order Magic

abbrev pub header_kind : ℕ
header_kind = 0x0a0d0d0a

abbrev pub order_of_magic : ℕ → Result (Option Order) Reason
order_of_magic magic =
    if magic == 0x1a2b3c4d then Ok (Some Big)
    else if magic == 0x4d3c2b1a then Ok (Some Little)
    else Err Malformed

-- the order of the numbers of a section that begins with these bytes; none where another block does
unfoldable pub order_of : List ℕ → Result (Option Order) Reason
order_of bytes = do
  kind ← field Big w32 bytes
  size ← field Big w32 kind.1
  magic ← field Big w32 size.1
  if kind.0 == header_kind then order_of_magic magic.0 else Ok None

-- A section of major version 1 begins: Byte-Order Magic, Major Version, and Minor Version and Section Length.
unfoldable pub header_in : Order → (body : List ℕ) → Result Block Reason
header_in order body = do
  magic ← cut 4 body
  major ← field order w16 magic.1
  others ← cut 10 major.1
  if major.0 == 1 then Ok (Section order) else Err Malformed

-- ---- Interface Description Block (type 1): LinkType, Reserved, SnapLen, and Options

unfoldable pub interface_in : Order → (body : List ℕ) → Result Block Reason
interface_in order body = do
  link ← field order w16 body
  reserved ← field order w16 link.1
  limit ← field order w32 reserved.1
  Ok (Describes (record { link = link_of link.0; limit = limit.0; per_second = per_second_in order limit.1 }))

-- ---- Simple Packet Block (type 3): Original Packet Length, and Packet Data

unfoldable pub simple_in : Order → (body : List ℕ) → Result Block Reason
simple_in order body = do
  size ← field order w32 body
  Ok (Simple size.0 size.1)

-- ---- Enhanced Packet Block (type 6): Interface ID, both halves of the time, Captured Packet Length, Original Packet
-- ---- Length, and Packet Data

unfoldable pub enhanced_in : Order → (body : List ℕ) → Result Block Reason
enhanced_in order body = do
  interface ← field order w32 body
  upper ← field order w32 interface.1
  lower ← field order w32 upper.1
  captured ← field order w32 lower.1
  size ← field order w32 captured.1
  packet ← cut captured.0 size.1
  Ok (Captured
      (record { interface = interface.0; ticks = Units upper.0 lower.0; size = size.0; bytes = packet.0 }))

-- ---- a block (General Block Structure): its type, its length, its body, and its length again

-- what a block of this type tells by its body
abbrev pub told_in : Order → (kind : ℕ) → (body : List ℕ) → Result Block Reason
told_in order kind body =
    if kind == header_kind then header_in order body
    else if kind == 1 then interface_in order body
    else if kind == 3 then simple_in order body
    else if kind == 6 then enhanced_in order body
    else Ok Other

-- A length is a multiple of four, of 12 at least.
abbrev pub is_length : ℕ → Bool
is_length size = not (nat_lt size 12) && size % 4 == 0

abbrev pub framed : (size : ℕ) → Result Block Reason → Read
framed size (Err reason) = Err Malformed
framed size (Ok block) = Ok (record { block = block; size = size })

unfoldable pub block_by : Order → List ℕ → Read
block_by order bytes = do
  kind ← field order w32 bytes
  size ← field order w32 kind.1
  if not (is_length size.0) then Err Malformed else do
    body ← cut (size.0 - 12) size.1
    again ← field order w32 body.1
    if again.0 == size.0 then framed size.0 (told_in order kind.0 body.0) else Err Malformed

-- The block with which the bytes begin, in a section whose numbers are in this order. A Section Header Block's are in
-- its own.
abbrev pub block_in : (section : Order) → List ℕ → Read
block_in section bytes = do
  order ← order_of bytes
  block_by (unwrap_or order section) bytes
