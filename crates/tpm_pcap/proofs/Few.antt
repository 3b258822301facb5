-- How much a packet tells at most.
use Rattle.std.proofs.Common.{ℕ, ◌+◌, ◌≤◌, Bool, true, false, List, [], ◌∷◌, ◌++◌, length, arith, length-append, nat_lt, cond, ◌==◌}
use Rattle.std.specs.Prelude.{not, ◌||◌}
use Rattle.tpm_pcap.specs.declared.entry.Reason.TheVariants as reasons
use Rattle.tpm_pcap.specs.declared.entry.Stamp.{Stamp}
use Rattle.tpm_pcap.specs.declared.message.Measure.TheVariants.{More, Frame, Silent, Broken}
use Rattle.tpm_pcap.specs.declared.message.Measure.{Measure}
use Rattle.tpm_pcap.specs.declared.way.Placing.TheVariants.{InOrder, Before, Ahead}
use Rattle.tpm_pcap.specs.declared.way.Placing.{Placing}
use Rattle.tpm_pcap.specs.Entries.{Connection, Entry, Untold}
use Rattle.tpm_pcap.specs.Files.{most_told}
use Rattle.tpm_pcap.specs.Messages.{measured}
use Rattle.tpm_pcap.specs.Segments.{Carried, Other, Lacking, Fragment, UnknownLink, OnPort, Segment}
use Rattle.tpm_pcap.specs.Talks.{Talk, after_carried, after_matter, after_same, is_same, matters, talk_of, unfinished}
use Rattle.tpm_pcap.specs.Ways.{Way, after_byte, after_bytes, after_captured, after_measure, after_placed, after_segment, begun, place_of}
use Rattle.tpm_pcap.specs.inner.Segments.{IsSmall}

-- one of two, of which neither tells more
either_few : {S : Type 0} (n : ℕ) (b : Bool) (x y : S × List Entry) → length x.1 ≤ n → length y.1 ≤ n → length (cond b x y).1 ≤ n
either_few n true x y f g = f
either_few n false x y f g = g

measure_few : (to_tpm : Bool) (stamp : Stamp) (w : Way) (m : Measure) → length (after_measure to_tpm stamp w m).1 ≤ 1
measure_few to_tpm stamp w More = omega arith
measure_few to_tpm stamp w (Frame before size) = omega arith
measure_few to_tpm stamp w Silent = omega arith
measure_few to_tpm stamp w Broken = omega arith

byte_few : (to_tpm : Bool) (stamp : Stamp) (w : Way) (byte : ℕ) → length (after_byte to_tpm stamp w byte).1 ≤ 1
unfolding after_byte
byte_few to_tpm stamp w byte = either_few 1 w.lost (w, []) _ (omega arith) (measure_few to_tpm stamp _ (measured to_tpm (w.held ++ byte ∷ [])))

bytes_few : (to_tpm : Bool) (stamp : Stamp) (w : Way) (bytes : List ℕ) → length (after_bytes to_tpm stamp w bytes).1 ≤ length bytes
bytes_few to_tpm stamp w [] = omega arith
bytes_few to_tpm stamp w (byte ∷ bytes) =
    let first = after_byte to_tpm stamp w byte in
    omega (
      arith,
      byte_few to_tpm stamp w byte,
      bytes_few to_tpm stamp first.0 bytes,
      length-append first.1 (after_bytes to_tpm stamp first.0 bytes).1,
    )

captured_few : (stamp : Stamp) (w : Way) (s : Segment) → length (after_captured stamp w s).1 ≤ length s.payload + 1
captured_few stamp w s = either_few (length s.payload + 1) (nat_lt (length s.payload) s.size) _ _ (omega arith)
    (omega (arith, bytes_few s.to_tpm stamp (begun w s) s.payload))

placed_few : (stamp : Stamp) (p : Placing) (w : Way) (s : Segment) → length (after_placed stamp p w s).1 ≤ length s.payload + 1
placed_few stamp InOrder w s = captured_few stamp w s
placed_few stamp Before w s = omega arith
placed_few stamp Ahead w s = omega arith

segment_few : (stamp : Stamp) (w : Way) (s : Segment) → length (after_segment stamp w s).1 ≤ length s.payload + 1
unfolding after_segment
segment_few stamp w s = either_few (length s.payload + 1) s.opens _ _ (omega arith) (placed_few stamp (place_of w.next s.number) w s)

same_few : (stamp : Stamp) (t : Talk) (s : Segment) → length (after_same stamp t s).1 ≤ length s.payload + 1
same_few stamp t s = either_few (length s.payload + 1) s.to_tpm _ _ (segment_few stamp t.to s) (segment_few stamp t.back s)

one_few : (test : Bool) (entry : Entry) → length (cond test (entry ∷ []) []) ≤ 1
one_few true entry = omega arith
one_few false entry = omega arith

pub unfinished_few : (packet : ℕ) (t : Talk) → length (unfinished packet t) ≤ 1
unfinished_few packet t = one_few (not (length t.to.held == 0) || not (length t.back.held == 0)) (Untold packet reasons.Unfinished)

matter_few : (stamp : Stamp) (t : Talk) (s : Segment) → length (after_matter stamp t s).1 ≤ length s.payload + 3
matter_few stamp t s =
    let begun = after_same stamp (talk_of s) s in
    either_few (length s.payload + 3) (is_same t s) (after_same stamp t s) (begun.0, unfinished stamp.packet t ++ (Connection ∷ begun.1))
    (omega (arith, same_few stamp t s)) (omega (
      arith,
      unfinished_few stamp.packet t,
      same_few stamp (talk_of s) s,
      length-append (unfinished stamp.packet t) (Connection ∷ begun.1),
    ))

pub carried_few : (stamp : Stamp) (t : Talk) (f : Carried) → IsSmall f → length (after_carried stamp t f).1 ≤ most_told
carried_few stamp t Other small = omega arith
carried_few stamp t Lacking small = omega arith
carried_few stamp t Fragment small = omega arith
carried_few stamp t UnknownLink small = omega arith
carried_few stamp t (OnPort s) small =
    either_few most_told (matters s) (after_matter stamp t s) (t, []) (omega (arith, matter_few stamp t s, small.1)) (omega arith)
