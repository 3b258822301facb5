-- The connection that is told: one at a time, as a simulator serves its clients.
use Rattle.std.specs.Prelude.{ℕ, ◌==◌, ◌||◌, ◌&&◌, not, Bool, List, [], ◌∷◌, ◌++◌, length}
use Rattle.std.specs.Prelude.{if◌then◌else◌}
use Rattle.std.specs.Str.{bytes_eq}
use Rattle.tpm_pcap.specs.declared.entry.Reason.TheVariants as reasons
use Rattle.tpm_pcap.specs.declared.entry.Stamp.{Stamp}
use Rattle.tpm_pcap.specs.Entries.{Entry, Connection, Untold}
use Rattle.tpm_pcap.specs.Segments.{Carried, Other, Lacking, Fragment, UnknownLink, OnPort, Segment}
use Rattle.tpm_pcap.specs.Ways.{Way, new_way, after_segment}

-- the client's address, the simulator's and the client's port, and both ways
pub record Talk : Type 0 where
  pub client : List ℕ
  pub simulator : List ℕ
  pub port : ℕ
  pub to : Way
  pub back : Way

abbrev pub new_talk : Talk
new_talk = record { client = []; simulator = []; port = 0; to = new_way; back = new_way }

abbrev pub talk_of : Segment → Talk
talk_of s = record { client = s.client; simulator = s.simulator; port = s.port; to = new_way; back = new_way }

abbrev pub is_same : Talk → Segment → Bool
is_same t s = bytes_eq t.client s.client && (bytes_eq t.simulator s.simulator && t.port == s.port)

-- It carries bytes, or opens its way. A segment that only acknowledges says nothing.
abbrev pub matters : Segment → Bool
matters s = s.opens || not (s.size == 0)

-- that a message did not come whole before this packet
abbrev pub unfinished : (packet : ℕ) → Talk → List Entry
unfinished packet t =
    if not (length t.to.held == 0) || not (length t.back.held == 0) then Untold packet reasons.Unfinished ∷ []
    else []

-- ---- what comes of the connection, and what is told there

-- a segment of it
abbrev pub after_same : Stamp → Talk → Segment → Talk × List Entry
after_same stamp t s =
    let to = after_segment stamp t.to s in
    let back = after_segment stamp t.back s in
    if s.to_tpm then (record t { to = to.0 }, to.1) else (record t { back = back.0 }, back.1)

-- a segment of any
abbrev pub after_matter : Stamp → Talk → Segment → Talk × List Entry
after_matter stamp t s =
    let begun = after_same stamp (talk_of s) s in
    if is_same t s then after_same stamp t s
    else (begun.0, unfinished stamp.packet t ++ (Connection ∷ begun.1))

-- a packet
abbrev pub after_carried : Stamp → Talk → Carried → Talk × List Entry
after_carried stamp t Other = (t, [])
after_carried stamp t Lacking = (t, Untold stamp.packet reasons.CutShort ∷ [])
after_carried stamp t Fragment = (t, Untold stamp.packet reasons.Fragment ∷ [])
after_carried stamp t UnknownLink = (t, Untold stamp.packet reasons.UnknownLink ∷ [])
after_carried stamp t (OnPort s) = if matters s then after_matter stamp t s else (t, [])
