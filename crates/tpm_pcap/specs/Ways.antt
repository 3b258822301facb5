-- One way of a connection: the bytes that come, cut into messages (RFC 9293, 3.4: numbers are modulo 2^32).
use Rattle.std.specs.Prelude.{ℕ, ◌+◌, ◌-◌, ◌%◌, ◌==◌, nat_lt, Bool, true, false, List, [], ◌∷◌, ◌++◌, length}
use Rattle.std.specs.Prelude.{take, drop, Option, Some, None, if◌then◌else◌}
use Rattle.tpm_pcap.specs.declared.entry.Reason.TheVariants.{CutShort, SentAgain, OutOfOrder, NoMessage}
use Rattle.tpm_pcap.specs.declared.entry.Stamp.{Stamp}
use Rattle.tpm_pcap.specs.declared.message.Measure.TheVariants.{More, Frame, Silent, Broken}
use Rattle.tpm_pcap.specs.declared.message.Measure.{Measure}
use Rattle.tpm_pcap.specs.declared.way.Placing.TheVariants.{InOrder, Before, Ahead}
use Rattle.tpm_pcap.specs.declared.way.Placing.{Placing}
use Rattle.tpm_pcap.specs.Entries.{Entry, Untold, frame_entry}
use Rattle.tpm_pcap.specs.Messages.{measured}
use Rattle.tpm_pcap.specs.Segments.{Segment}

-- the number of the next byte, where it is known; what has come of a message; and whether the rest of a segment counts
-- for nothing, since no message begins where one should
pub record Way : Type 0 where
  pub next : Option ℕ
  pub held : List ℕ
  pub lost : Bool

abbrev pub new_way : Way
new_way = record { next = None; held = []; lost = false }

-- ---- what comes of a way, and what is told there

-- a byte, with which what is held has this measure
abbrev pub after_measure : (to_tpm : Bool) → Stamp → Way → Measure → Way × List Entry
after_measure to_tpm stamp w More = (w, [])
after_measure to_tpm stamp w (Frame before size) =
    (record w { held = [] }, frame_entry to_tpm stamp (take size (drop before w.held)) ∷ [])
after_measure to_tpm stamp w Silent = (record w { held = [] }, [])
after_measure to_tpm stamp w Broken = (record w { held = []; lost = true }, Untold stamp.packet NoMessage ∷ [])

unfoldable pub after_byte : (to_tpm : Bool) → Stamp → Way → ℕ → Way × List Entry
after_byte to_tpm stamp w byte =
    if w.lost then (w, [])
    else after_measure to_tpm stamp (record w { held = w.held ++ byte ∷ [] }) (measured to_tpm (w.held ++ byte ∷ []))

abbrev pub after_bytes : (to_tpm : Bool) → Stamp → Way → List ℕ → Way × List Entry
after_bytes to_tpm stamp w [] = (w, [])
after_bytes to_tpm stamp w (byte ∷ bytes) =
    let first = after_byte to_tpm stamp w byte in
    let others = after_bytes to_tpm stamp first.0 bytes in (others.0, first.1 ++ others.1)

-- ---- a segment

-- Numbers come round: a number is before another that is less than 2^31 ahead of it, or the same.
abbrev pub is_before : (number next : ℕ) → Bool
is_before number next = nat_lt ((next + 4294967296 - number) % 4294967296) 2147483648

abbrev pub place_of : Option ℕ → (number : ℕ) → Placing
place_of None number = InOrder
place_of (Some next) number =
    if next == number then InOrder
    else if is_before number next then Before
    else Ahead

abbrev pub number_behind : (number size : ℕ) → ℕ
number_behind number size = (number + size) % 4294967296

abbrev pub behind : Segment → ℕ
behind s = number_behind s.number s.size

-- behind this byte, with nothing of a message
abbrev pub resumed : ℕ → Way
resumed next = record { next = Some next; held = []; lost = false }

abbrev pub begun : Way → Segment → Way
begun w s = record { next = Some (behind s); held = w.held; lost = false }

abbrev pub after_captured : Stamp → Way → Segment → Way × List Entry
after_captured stamp w s =
    if nat_lt (length s.payload) s.size then (resumed (behind s), Untold stamp.packet CutShort ∷ [])
    else after_bytes s.to_tpm stamp (begun w s) s.payload

abbrev pub after_placed : Stamp → Placing → Way → Segment → Way × List Entry
after_placed stamp InOrder w s = after_captured stamp w s
after_placed stamp Before w s = (w, Untold stamp.packet SentAgain ∷ [])
after_placed stamp Ahead w s = (resumed (behind s), Untold stamp.packet OutOfOrder ∷ [])

-- The segment that opens a way counts as one byte.
unfoldable pub after_segment : Stamp → Way → Segment → Way × List Entry
after_segment stamp w s =
    if s.opens then (resumed (number_behind s.number 1), [])
    else after_placed stamp (place_of w.next s.number) w s
