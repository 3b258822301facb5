-- What is told of the sessions of a command or of a reply (Part 2, 10.13.2 and 10.13.3; this profile).
use Rattle.std.specs.Prelude.{ℕ, ◌+◌, List, [], ◌∷◌, ◌++◌, codes, Option, Some, None}
use Rattle.std.specs.Int.{to_be_bytes, w32}
use Rattle.tpm_types.specs.declared.tpms.Auth.{Auth}
use Rattle.tpm_types.specs.declared.tpms.AuthReply.{AuthReply}
use Rattle.tpm_output.specs.Named.{Named, table_as}
use Rattle.tpm_show.specs.declared.piece.How.{How}
use Rattle.tpm_show.specs.declared.piece.How.TheVariants as how
use Rattle.tpm_show.specs.declared.piece.Shape.TheVariants as shape
use Rattle.tpm_show.specs.declared.sessions.TheConstants.{ATTRIBUTES}
use Rattle.tpm_show.specs.Bits.{bits_set}
use Rattle.tpm_show.specs.HandleNames.{handle_named}
use Rattle.tpm_show.specs.Pieces.{Word, Number, Bytes, Piece, Says, InLine, Opens, Closes, line_end, list_told, says}
use Rattle.tpm_show.specs.Pieces.{word_told, words}

-- a session, whose handle only a command's has
pub record ShownSession : Type 0 where
  pub handle : Option ℕ
  pub nonce : List ℕ
  pub attributes : ℕ
  pub hmac : List ℕ

abbrev pub of_command : Auth → ShownSession
of_command auth = record { handle = Some auth.session; nonce = auth.nonce; attributes = auth.attrs; hmac = auth.hmac }

abbrev pub of_reply : AuthReply → ShownSession
of_reply auth = record { handle = None; nonce = auth.nonce; attributes = auth.attrs; hmac = auth.hmac }

-- ---- TPMA_SESSION (8.4)

-- the bits that are set, by their names
unfoldable pub attributes_set : ℕ → List Named
attributes_set attributes = bits_set (table_as ATTRIBUTES) attributes

-- ---- what is told of a session

abbrev pub handle_told : Option ℕ → List Piece
handle_told None = []
handle_told (Some handle) =
    says how.Behind (codes "session") (Bytes (to_be_bytes w32 handle))
    ∷ word_told how.Asked (codes "session_name") (handle_named handle)

-- the names of bits, with commas between them
abbrev pub names_from : How → List Named → List Piece
names_from h [] = []
names_from h (bit ∷ bits) = Says h None (Word bit.name) ∷ names_from how.FurtherAsked bits

-- the attributes, and the names of those that are set
unfoldable pub attributes_told : ℕ → List Piece
attributes_told attributes = says how.Under (codes "attributes") (Bytes (attributes ∷ []))
    ∷ list_told (codes "attribute_names") (names_from how.Asked (attributes_set attributes))

-- its number, which a line has, and its members
unfoldable pub session_begins : ℕ → List Piece
session_begins i = Opens None shape.Object ∷ words (codes "session") ∷ InLine how.Behind (Number i) ∷ []

unfoldable pub session_ends : (hmac : List ℕ) → List Piece
session_ends hmac = says how.Under (codes "hmac") (Bytes hmac) ∷ line_end ∷ Closes shape.Object ∷ []

unfoldable pub session_told : ℕ → ShownSession → List Piece
session_told i s = session_begins i ++ (handle_told s.handle
    ++ says how.Under (codes "nonce") (Bytes s.nonce) ∷ (attributes_told s.attributes ++ session_ends s.hmac))

abbrev pub sessions_from : ℕ → List ShownSession → List Piece
sessions_from i [] = []
sessions_from i (s ∷ ss) = session_told i s ++ sessions_from (i + 1) ss

abbrev pub sessions_told : List ShownSession → List Piece
sessions_told sessions = list_told (codes "sessions") (sessions_from 1 sessions)
