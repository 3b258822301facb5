-- Segments of TCP on the port of a simulator (RFC 9293, 3.1; RFC 791, 3.1; RFC 8200, 3 and 4.5).
use Rattle.std.specs.Prelude.{ℕ, ◌-◌, ◌*◌, ◌/◌, ◌%◌, ◌==◌, ◌||◌, ◌&&◌, nat_lt, not, Bool, List, length, take, drop}
use Rattle.std.specs.Prelude.{slice_index, Option, Some, None, Result, Ok, Err, if◌then◌else◌}
use Rattle.tpm_pcap.specs.declared.entry.Reason.TheVariants.{CutShort}
use Rattle.tpm_pcap.specs.declared.entry.Reason.{Reason}
use Rattle.tpm_pcap.specs.declared.link.Link.{Link}
use Rattle.tpm_pcap.specs.Links.{head_size, carries_internet}
use Rattle.tpm_pcap.specs.Numbers.{number2, number4, ◌>>=◌, cut}

-- a segment on the port: whether it goes to the TPM, the addresses of the client and of the simulator, the client's
-- port, the number of its first byte, whether it opens its way of the connection, how many bytes it carries, and those
-- of them that were captured
pub record Segment : Type 0 where
  pub to_tpm : Bool
  pub client : List ℕ
  pub simulator : List ℕ
  pub port : ℕ
  pub number : ℕ
  pub opens : Bool
  pub size : ℕ
  pub payload : List ℕ

-- nothing of the port; too little of it was captured; a part of a packet; a link that is not known; a segment
pub data Carried : Type 0 where
  Other : Carried
  Lacking : Carried
  Fragment : Carried
  UnknownLink : Carried
  OnPort : Segment → Carried

-- ---- TCP

-- in so many bytes between these addresses, of which these were captured: Source Port, Destination Port, Sequence
-- Number, Acknowledgment Number, Data Offset, the control bits, of which the last but one is SYN, and six bytes more
unfoldable pub in_tcp : (port : ℕ) → (source target : List ℕ) → (size : ℕ) → (tcp : List ℕ) → Result Carried Reason
in_tcp port source target size tcp = do
  fields ← cut 20 tcp
  let source_port = number2 fields.0 0 in
      let target_port = number2 fields.0 2 in
      let head = slice_index fields.0 12 / 16 * 4 in
      if not (target_port == port) && not (source_port == port) then Ok Other
      else if nat_lt head 20 || nat_lt size head then Ok Other
      else Ok (OnPort (record {
        to_tpm = target_port == port;
        client = if target_port == port then source else target;
        simulator = if target_port == port then target else source;
        port = if target_port == port then source_port else target_port;
        number = number4 fields.0 4;
        opens = slice_index fields.0 13 / 2 % 2 == 1;
        size = size - head;
        payload = take (size - head) (drop head tcp);
      }))

-- ---- IP

-- in a packet of IPv4: Version and Internet Header Length, Type of Service, Total Length, Identification, Flags and
-- Fragment Offset, Time to Live, Protocol, and Header Checksum, and behind these both addresses
unfoldable pub in_version4 : (port : ℕ) → List ℕ → Result Carried Reason
in_version4 port bytes = do
  fields ← cut 12 bytes
  source ← cut 4 fields.1
  target ← cut 4 source.1
  let head = slice_index fields.0 0 % 16 * 4 in
      if not (slice_index fields.0 9 == 6) then Ok Other
      else if not (number2 fields.0 6 % 16384 == 0) then Ok Fragment
      else in_tcp port source.0 target.0 (number2 fields.0 2 - head) (drop head bytes)

-- in a packet of IPv6: Version, Traffic Class and Flow Label, Payload Length, Next Header, which is TCP or a fragment,
-- perhaps of that, and Hop Limit, and behind these both addresses
unfoldable pub in_version6 : (port : ℕ) → List ℕ → Result Carried Reason
in_version6 port bytes = do
  fields ← cut 8 bytes
  source ← cut 16 fields.1
  target ← cut 16 source.1
  if slice_index fields.0 6 == 6 then in_tcp port source.0 target.0 (number2 fields.0 4) target.1
      else if not (slice_index fields.0 6 == 44) then Ok Other
      else if length target.1 == 0 then Err CutShort
      else if slice_index target.1 0 == 6 then Ok Fragment
      else Ok Other

-- by its Version
unfoldable pub in_internet : (port : ℕ) → List ℕ → Result Carried Reason
in_internet port bytes =
    if length bytes == 0 then Err CutShort
    else if slice_index bytes 0 / 16 == 4 then in_version4 port bytes
    else if slice_index bytes 0 / 16 == 6 then in_version6 port bytes
    else Ok Other

-- ---- a packet

-- in a packet of this kind of link
unfoldable pub carried_in : Link → (port : ℕ) → List ℕ → Result Carried Reason
carried_in link port bytes = do
  head ← cut (head_size link) bytes
  if carries_internet link head.0 then in_internet port head.1 else Ok Other

-- A packet that ends before a header does is none of the port, or it was captured so.
abbrev pub found : (whole : Bool) → Result Carried Reason → Carried
found whole (Ok carried) = carried
found whole (Err reason) = if whole then Other else Lacking

-- all of it was captured or not
abbrev pub carried_by : Option Link → (port : ℕ) → (whole : Bool) → List ℕ → Carried
carried_by None port whole bytes = UnknownLink
carried_by (Some link) port whole bytes = found whole (carried_in link port bytes)
