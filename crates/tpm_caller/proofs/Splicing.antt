-- What is written behind the handles of a command makes it the sealed command.
use Rattle.std.proofs.Common.{◌≡◌, ℕ, ◌+◌, List, [], ◌∷◌, ◌++◌, length, sym, subst, ap, ◌∙◌, arith}
use Rattle.std.proofs.Common.{append_assoc, length-append}
use Rattle.std.proofs.lemmas.List.{append-nil}
use Rattle.std.specs.Int.{bytes_high_first}
use Rattle.tpm_wire.specs.Spelling.{spelling}
use Rattle.tpm_wire.specs.Structures.{sized_bytes}
use Rattle.tpm_types.specs.declared.tpms.Auth.{Auth}
use Rattle.tpm_types.specs.Handles.{auth_session}
use Rattle.tpm_types.specs.Tpma.{session_attrs}
use Rattle.tpm_types.specs.Tpms.{auth_command}
use Rattle.tpm_commands.specs.declared.command.CommandBody.{CommandBody}
use Rattle.tpm_types.specs.CommandCodes.{command_code, code_number}
use Rattle.tpm_buffer.specs.Commands.{tag, command_size, header, sessions, authorization_size, authorization, code_for}
use Rattle.tpm_buffer.specs.Commands.{with_auths, command}
use Rattle.tpm_buffer.specs.Parts.{behind_header, joined}
use Rattle.tpm_hmac.specs.Hmac.{hmac}
use Rattle.tpm_hmac.specs.Sessions.{whole_key, cp_hash, mac_text}
use Rattle.tpm_model.specs.Callers.{Seal, attrs_for, command_params, seal_key, seal_text, sealed}
use Rattle.tpm_caller.specs.Sent.{hmac_key}
use Rattle.tpm_caller.specs.Plain.{PlainParts, handle_bytes, parts_of, IsAtFront}
use Rattle.tpm_caller.proofs.HmacPlace.{session_len, session_long, one_mac}

-- ---- the parts, joined

-- a command by what is behind its header
abbrev whole : ℕ → List ℕ → ℕ → List ℕ
whole code behind size = bytes_high_first 2 0x8002 ++ (bytes_high_first 4 size ++ (bytes_high_first 4 code ++ behind))

abbrev session_size : Auth → ℕ
session_size a = session_len a.nonce (length a.hmac)

-- what is behind the header
abbrev behind : (handles : List ℕ) → Auth → (params : List ℕ) → List ℕ
behind handles a params = handles ++ ((bytes_high_first 4 (session_size a) ++ spelling auth_command a) ++ params)

behind_is : (handles params : List ℕ) (a : Auth) → behind_header handles (spelling auth_command a) params ≡ behind handles a params
unfolding auth_command auth_session session_attrs sized_bytes
behind_is handles params a =
    ap (λ (n : ℕ). handles ++ ((bytes_high_first 4 n ++ spelling auth_command a) ++ params)) (session_long a)

behind_long : (handles params : List ℕ) (a : Auth)
    → length (behind handles a params) ≡ length handles + (4 + session_size a) + length params
behind_long handles params a = simp length-append (omega (arith, session_long a))

joined_is : (p : PlainParts) (a : Auth)
    → joined p.code p.handles (spelling auth_command a) p.params
    ≡ whole (code_number p.code) (behind p.handles a p.params) (14 + length p.handles + session_size a + length p.params)
unfolding auth_command auth_session session_attrs sized_bytes
joined_is p a =
    let b = behind p.handles a p.params in
    ap (λ (l : List ℕ). whole (code_number p.code) l (10 + length l)) (behind_is p.handles p.params a)
    ∙ ap (whole (code_number p.code) b) (omega (arith, behind_long p.handles p.params a))

-- as they are written one behind the other
abbrev in_turn : (tag size code handles number session nonce_len nonce attrs mac_len mac params : List ℕ) → List ℕ
in_turn tag size code handles number session nonce_len nonce attrs mac_len mac params =
    ((((((((((([] ++ tag) ++ size) ++ code) ++ handles) ++ number) ++ session) ++ nonce_len) ++ nonce) ++ attrs) ++ mac_len) ++ mac) ++ params

grouped : (tag size code handles number session nonce_len nonce attrs mac_len mac params : List ℕ)
    → in_turn tag size code handles number session nonce_len nonce attrs mac_len mac params
    ≡ tag
    ++ (size
    ++ (code
    ++ (handles
    ++ ((number ++ (session ++ ((nonce_len ++ nonce) ++ (attrs ++ ((mac_len ++ mac) ++ []))))) ++ params))))
grouped tag size code handles number session nonce_len nonce attrs mac_len mac params = simp (append-nil, append_assoc)

-- What is written is the joined parts, where the numbers lie in these bytes.
pub written_in : (q p : PlainParts) (a : Auth) (old new : List ℕ) (count : ℕ)
    (tag size code area session nonce_len attrs mac_len : List ℕ) → tag ≡ bytes_high_first 2 0x8002
    → size ≡ bytes_high_first 4 (14 + length q.handles + session_size a + length q.params) → code ≡ bytes_high_first 4 (code_number q.code)
    → area ≡ bytes_high_first 4 (session_size a) → session ≡ bytes_high_first 4 a.session → nonce_len ≡ bytes_high_first 2 (length a.nonce)
    → attrs ≡ bytes_high_first 1 a.attrs → mac_len ≡ bytes_high_first 2 (length a.hmac) → q ≡ p
    → IsAtFront (in_turn tag size code q.handles area session nonce_len a.nonce attrs mac_len a.hmac q.params) old new count
    → IsAtFront (joined p.code p.handles (spelling auth_command a) p.params) old new count
unfolding auth_command auth_session session_attrs sized_bytes
written_in q p a old new count tag size code area session nonce_len attrs mac_len t z o r m n b k is front =
    let same : in_turn tag size code q.handles area session nonce_len a.nonce attrs mac_len a.hmac q.params
    ≡ joined q.code q.handles (spelling auth_command a) q.params =
    grouped tag size code q.handles area session nonce_len a.nonce attrs mac_len a.hmac q.params
    ∙ rw (t, z, o, r, m, n, b, k) (sym (joined_is q a)) in
    subst (λ (r : PlainParts). IsAtFront (joined r.code r.handles (spelling auth_command a) r.params) old new count) is
    (subst (λ (l : List ℕ). IsAtFront l old new count) same front)

-- ---- the sealed command

abbrev with_header : CommandBody → List ℕ → List ℕ
with_header body rest = whole (code_number (code_for body)) rest (10 + length rest)

pub joined_command : (body : CommandBody) (a : Auth)
    → joined (code_for body) (handle_bytes body) (spelling auth_command a) (command_params body)
    ≡ spelling command (with_auths body (a ∷ []))
unfolding command header tag command_size command_code authorization authorization_size sessions auth_command auth_session session_attrs sized_bytes
joined_command body a =
    let session = spelling auth_command a in
    let one = λ (l p : List ℕ). handle_bytes body ++ ((bytes_high_first 4 (length l) ++ l) ++ p) in
    ap (with_header body) (ap (λ (l : List ℕ). one l (command_params body)) (sym (append-nil session))
    ∙ ap (one (session ++ [])) (sym (append-nil (command_params body))))

abbrev its_auth : Seal → (nonce : List ℕ) → (attrs : ℕ) → (mac : List ℕ) → Auth
its_auth s nonce attrs mac = record { session = s.caller.handle; nonce = nonce; attrs = attrs; hmac = mac }

sealed_is : (s : Seal) (q p : PlainParts) (key mac : List ℕ) (attrs : ℕ) → q ≡ p → p ≡ parts_of s.body → attrs ≡ attrs_for s.keep
    → key ≡ hmac_key s.caller.hash (seal_key s)
    → mac ≡ hmac s.caller.hash (whole_key key []) (mac_text (cp_hash s.caller.hash (code_number q.code) s.names q.params) s.nonce s.caller.nonce attrs)
    → joined p.code p.handles (spelling auth_command (its_auth s s.nonce attrs mac)) p.params ≡ sealed s
sealed_is s q p key mac attrs seen is kept keyed made =
    let seen_as : q ≡ parts_of s.body = seen ∙ is in
    let signed : mac ≡ hmac s.caller.hash (seal_key s) (seal_text s) =
    made ∙ one_mac s key q.params q.code attrs (ap (λ (r : PlainParts). r.code) seen_as) kept keyed (ap (λ (r : PlainParts). r.params) seen_as) in
    ap (λ (r : PlainParts). joined r.code r.handles (spelling auth_command (its_auth s s.nonce attrs mac)) r.params) is
    ∙ joined_command s.body (its_auth s s.nonce attrs mac)
    ∙ ap (λ (n : ℕ). spelling command (with_auths s.body (its_auth s s.nonce n mac ∷ []))) kept
    ∙ ap (λ (m : List ℕ). spelling command (with_auths s.body (its_auth s s.nonce (attrs_for s.keep) m ∷ []))) signed

-- what is written is the sealed command
pub sealed_there : (s : Seal) (q p : PlainParts) (key mac nonce_there mac_there old new : List ℕ) (attrs count : ℕ) → q ≡ p → p ≡ parts_of s.body
    → attrs ≡ attrs_for s.keep → key ≡ hmac_key s.caller.hash (seal_key s)
    → mac ≡ hmac s.caller.hash (whole_key key []) (mac_text (cp_hash s.caller.hash (code_number q.code) s.names q.params) s.nonce s.caller.nonce attrs)
    → nonce_there ≡ s.nonce → mac_there ≡ mac
    → IsAtFront (joined p.code p.handles (spelling auth_command (its_auth s nonce_there attrs mac_there)) p.params) old new count
    → IsAtFront (sealed s) old new count
sealed_there s q p key mac nonce_there mac_there old new attrs count seen is kept keyed made same_nonce same_mac front =
    let text : List ℕ → List ℕ → List ℕ = λ n m. joined p.code p.handles (spelling auth_command (its_auth s n attrs m)) p.params in
    subst (λ (l : List ℕ). IsAtFront l old new count)
    (ap (λ (n : List ℕ). text n mac_there) same_nonce ∙ ap (text s.nonce) same_mac ∙ sealed_is s q p key mac attrs seen is kept keyed made) front
