-- Where a frame stands among the packets of a network (this profile).
use Rattle.std.specs.Prelude.{ℕ, ◌/◌, ◌%◌, ◌-◌, List, [], ◌∷◌, ◌++◌, length, replicate, codes, Option, Some, None}
use Rattle.std.specs.Prelude.{option_map}
use Rattle.std.specs.Fmt.{decimal}
use Rattle.tpm_pcap.specs.declared.entry.Stamp.{Stamp}
use Rattle.tpm_show.specs.declared.passage.Passage.{Passage}
use Rattle.tpm_show.specs.declared.piece.How.TheVariants as how
use Rattle.tpm_show.specs.Pieces.{Number, Piece, line_end, says, word_told, words}

-- nine digits at least, with zeros before the number
abbrev pub nine_digits : ℕ → List ℕ
nine_digits n = replicate (9 - length (decimal n)) 48 ++ decimal n

-- so many nanoseconds, in seconds
unfoldable pub time_text : ℕ → List ℕ
time_text n = decimal (n / 1000000000) ++ (codes "." ++ nine_digits (n % 1000000000))

-- the packet in which the frame ends, and the number of its connection
unfoldable pub packet_told : Stamp → (connection : ℕ) → List Piece
packet_told stamp connection = words (codes "packet") ∷ says how.Behind (codes "packet") (Number stamp.packet)
    ∷ (word_told how.Under (codes "time") (option_map time_text stamp.time)
    ++ says how.Under (codes "connection") (Number connection) ∷ line_end ∷ [])

-- of a frame that stands among packets
abbrev pub stamp_told : Option Stamp → (connection : ℕ) → List Piece
stamp_told None connection = []
stamp_told (Some stamp) connection = packet_told stamp connection

abbrev pub passage_told : Passage → List Piece
passage_told p = stamp_told p.stamp p.connection
