-- The files of libpcap (pcap-savefile(5)): a header, and packets with headers of their own.
use Rattle.std.specs.Prelude.{ℕ, ◌+◌, ◌%◌, ◌==◌, List, Result, Ok, Err, if◌then◌else◌}
use Rattle.std.specs.Int.{w32}
use Rattle.tpm_pcap.specs.declared.block.Ticks.TheVariants.{Seconds}
use Rattle.tpm_pcap.specs.declared.entry.Reason.TheVariants.{Malformed}
use Rattle.tpm_pcap.specs.declared.entry.Reason.{Reason}
use Rattle.tpm_pcap.specs.declared.numbers.Order.TheVariants.{Big, Little}
use Rattle.tpm_pcap.specs.declared.numbers.Order.{Order}
use Rattle.tpm_pcap.specs.declared.savefile.Header.{Header}
use Rattle.tpm_pcap.specs.Blocks.{Captured, Read}
use Rattle.tpm_pcap.specs.Numbers.{Fields, ◌>>=◌, cut, field}

-- The magic number: the order of the file's numbers, and how many units of its times a second has.
abbrev pub units_of : (magic : ℕ) → Result (Order × ℕ) Reason
units_of magic =
    if magic == 0xa1b2c3d4 then Ok (Big, 1000000)
    else if magic == 0xa1b23c4d then Ok (Big, 1000000000)
    else if magic == 0xd4c3b2a1 then Ok (Little, 1000000)
    else if magic == 0x4d3cb2a1 then Ok (Little, 1000000000)
    else Err Malformed

-- the magic number, the version, time zone, accuracy and snapshot length, which say nothing, and the kind of link
unfoldable pub header_in : List ℕ → Fields Header
header_in bytes = do
  magic ← field Big w32 bytes
  units ← units_of magic.0
  others ← cut 16 magic.1
  link ← field units.0 w32 others.1
  Ok (record { order = units.0; per_second = units.1; link = link.0 % 65536 }, link.1)

-- the seconds and the units of a packet's time, how many bytes were captured, how many there were, and those captured
unfoldable pub record_in : Order → List ℕ → Read
record_in order bytes = do
  seconds ← field order w32 bytes
  units ← field order w32 seconds.1
  captured ← field order w32 units.1
  size ← field order w32 captured.1
  packet ← cut captured.0 size.1
  Ok (record {
    block = Captured (record { interface = 0; ticks = Seconds seconds.0 units.0; size = size.0; bytes = packet.0 });
    size = 16 + captured.0;
  })
