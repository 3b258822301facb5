-- Where the HMAC of a sealed command lies: right before the parameters.
use Rattle.std.proofs.Common.{◌≡◌, ◌⊎◌, ℕ, ◌+◌, ◌-◌, ◌*◌, ◌^◌, ◌≤◌, ◌<◌, true, Some, None, List, [], ◌∷◌, ◌++◌, length}
use Rattle.std.proofs.Common.{take, drop, refl, sym, ap, ◌∙◌, subst, arith, append_assoc, length-append}
use Rattle.std.proofs.lemmas.List.{append-nil, take_at, drop_at}
use Rattle.std.specs.Prelude.{nat_le, if◌then◌else◌}
use Rattle.std.specs.Int.{bytes_high_first}
use Rattle.tpm_wire.specs.Spelling.{spelling, Fits}
use Rattle.tpm_wire.specs.Structures.{sized_bytes}
use Rattle.tpm_types.specs.declared.tpms.Auth.{Auth}
use Rattle.tpm_types.specs.Handles.{auth_session}
use Rattle.tpm_types.specs.Tpma.{session_attrs}
use Rattle.tpm_types.specs.Tpms.{auth_command}
use Rattle.tpm_types.specs.Limits.{digest_bytes}
use Rattle.tpm_types.specs.Alg.{digest_len}
use Rattle.tpm_commands.specs.declared.command.CommandBody.{CommandBody}
use Rattle.tpm_commands.specs.declared.command.Header.{Header}
use Rattle.tpm_commands.specs.declared.command.Command.{Command}
use Rattle.tpm_types.specs.declared.command_code.CommandCode.{CommandCode}
use Rattle.tpm_types.specs.CommandCodes.{command_code, code_number}
use Rattle.tpm_commands.specs.Parameters.{parameters}
use Rattle.tpm_commands.specs.declared.command.CommandBody.TheVariants as bodies
use Rattle.tpm_buffer.specs.Commands.{tag, command_size, header, sessions, authorization_size, authorization, code_for}
use Rattle.tpm_buffer.specs.Commands.{handles_of, params_of, with_auths, rest_of, size_of, header_of, command}
use Rattle.tpm_hmac.specs.Hmac.{hmac}
use Rattle.tpm_hmac.specs.Sessions.{whole_key, cp_hash, mac_text}
use Rattle.tpm_hmac.proofs.DigestLengths.{length-hmac}
use Rattle.tpm_model.specs.Callers.{Seal, attrs_for, command_params, seal_key, seal_text, seal_auth, sealed, sealed_command}
use Rattle.tpm_model.specs.Premises.{HasSpelling}
use Rattle.tpm_model.proofs.Sealing.{has_spelling}
use Rattle.tpm_caller.specs.Sent.{hmac_key, IsSpelled}
use Rattle.tpm_caller.specs.Plain.{handle_bytes}
use Rattle.tpm_caller.proofs.Keys.{one_hmac}
use Rattle.tpm_caller.specs.inner.Placing.{hmac_at, with_hmac}

-- ---- the parts of a command with one session

abbrev pub session_len : List ℕ → ℕ → ℕ
session_len nonce k = 9 + length nonce + k

abbrev header_for : CommandBody → ℕ → Header
header_for body size = record { tag = 0x8002; size = size; code = code_for body }

abbrev total : CommandBody → List ℕ → ℕ → ℕ
total body nonce k = 10 + (length (handle_bytes body) + (4 + session_len nonce k + length (command_params body)))

-- what is before the HMAC, of so many bytes
abbrev before : CommandBody → (session : ℕ) → (nonce : List ℕ) → (attrs k : ℕ) → List ℕ
before body session nonce attrs k = spelling header (header_for body (total body nonce k))
    ++ (handle_bytes body
    ++ (bytes_high_first 4 (session_len nonce k)
    ++ (bytes_high_first 4 session
    ++ ((bytes_high_first 2 (length nonce) ++ nonce)
    ++ (bytes_high_first 1 attrs ++ bytes_high_first 2 k)))))

one_session : Auth → List ℕ
one_session a = spelling auth_command a ++ []

length-session : (a : Auth) → length (one_session a) ≡ session_len a.nonce (length a.hmac)
unfolding one_session auth_command auth_session session_attrs sized_bytes
length-session a = simp length-append (omega arith)

rest_length : (hs auth params : List ℕ) (size : ℕ)
    → length (hs ++ ((bytes_high_first 4 size ++ auth) ++ (params ++ [])))
    ≡ length hs + (4 + length auth + length params)
rest_length hs auth params size = simp length-append (omega arith)

pub size_is : (body : CommandBody) (a : Auth) → size_of (with_auths body (a ∷ [])) ≡ total body a.nonce (length a.hmac)
unfolding authorization authorization_size sessions one_session
size_is body a =
    ap (λ (n : ℕ). 10 + n) (rest_length (handle_bytes body) (one_session a) (command_params body) (length (one_session a)))
    ∙ ap (λ (n : ℕ). 10 + (length (handle_bytes body) + (4 + n + length (command_params body)))) (length-session a)

joined : (head hs size session nonce attrs k mac params : List ℕ)
    → head ++ (hs ++ ((size ++ ((session ++ (nonce ++ (attrs ++ ((k ++ mac) ++ [])))) ++ [])) ++ (params ++ [])))
    ≡ (head ++ (hs ++ (size ++ (session ++ (nonce ++ (attrs ++ k)))))) ++ (mac ++ params)
joined head hs size session nonce attrs k mac params = simp (append-nil, append_assoc)

pub parts : (body : CommandBody) (a : Auth)
    → spelling command (with_auths body (a ∷ []))
    ≡ before body a.session a.nonce a.attrs (length a.hmac) ++ (a.hmac ++ command_params body)
unfolding command authorization authorization_size sessions one_session auth_command auth_session session_attrs sized_bytes
parts body a =
    let rest = handle_bytes body ++ ((bytes_high_first 4 (length (one_session a)) ++ one_session a) ++ (command_params body ++ [])) in
    ap (λ (n : ℕ). spelling header (header_for body n) ++ rest) (size_is body a)
    ∙ ap
    (λ (n : ℕ).
    spelling header (header_for body (total body a.nonce (length a.hmac)))
    ++ (handle_bytes body ++ ((bytes_high_first 4 n ++ one_session a) ++ (command_params body ++ []))))
    (length-session a)
    ∙ joined (spelling header (header_for body (total body a.nonce (length a.hmac)))) (handle_bytes body)
    (bytes_high_first 4 (session_len a.nonce (length a.hmac))) (bytes_high_first 4 a.session)
    (bytes_high_first 2 (length a.nonce) ++ a.nonce) (bytes_high_first 1 a.attrs)
    (bytes_high_first 2 (length a.hmac)) a.hmac (command_params body)

-- ---- lengths

handles_long : (body : CommandBody) → length (handle_bytes body) ≡ 4 * length (handles_of body)
handles_long (bodies.NvUndefineSpace index) = refl
handles_long _ = refl

pub header_long : (h : Header) → length (spelling header h) ≡ 10
unfolding header tag command_size command_code
header_long h = refl

pub before_long : (body : CommandBody) (names : List (List ℕ)) (session : ℕ) (nonce : List ℕ) (attrs k : ℕ)
    → length names ≡ length (handles_of body) → length (before body session nonce attrs k) ≡ hmac_at names nonce
before_long body names session nonce attrs k same =
    simp length-append (omega (arith, same, handles_long body, header_long (header_for body (total body nonce k))))

-- ---- another HMAC in its place

-- the session with another HMAC
abbrev pub re_signed : Auth → List ℕ → Auth
re_signed a mac = record a { hmac = mac }

-- what the bytes of a command with a session have at the place of its HMAC and behind it
record Places (body : CommandBody) (names : List (List ℕ)) (a : Auth) (bytes : List ℕ) : Type 0 where
  room : hmac_at names a.nonce + length a.hmac ≤ length bytes
  params : drop (hmac_at names a.nonce + length a.hmac) bytes ≡ command_params body
  signed : (mac : List ℕ) → length mac ≡ length a.hmac → with_hmac (hmac_at names a.nonce) mac bytes ≡ spelling command (with_auths body (re_signed a mac ∷ []))

drop_two : (front middle back : List ℕ) (m n : ℕ) → length front ≡ m → length middle ≡ n → drop (m + n) (front ++ (middle ++ back)) ≡ back
drop_two front middle back m n e f =
    ap (drop (m + n)) (sym (append_assoc front middle back))
    ∙ drop_at (front ++ middle) back (m + n) (length-append front middle ∙ rw (e, f) refl)

places : (body : CommandBody) (names : List (List ℕ)) (a : Auth) (bytes : List ℕ)
    → length names ≡ length (handles_of body) → bytes ≡ spelling command (with_auths body (a ∷ []))
    → Places body names a bytes
places body names a bytes same e =
    let at = hmac_at names a.nonce in
    let front = before body a.session a.nonce a.attrs (length a.hmac) in
    let params = command_params body in
    let is : bytes ≡ front ++ (a.hmac ++ params) = e ∙ parts body a in
    let long : length front ≡ at = before_long body names a.session a.nonce a.attrs (length a.hmac) same in
    let behind : drop (at + length a.hmac) bytes ≡ params = ap (drop (at + length a.hmac)) is ∙ drop_two front a.hmac params at (length a.hmac) long refl in
    record {
      room = omega (arith, long, ap length is, length-append front (a.hmac ++ params), length-append a.hmac params);
      params = behind;
      signed = λ mac as_long.
          let first : take at bytes ≡ front = ap (take at) is ∙ take_at front (a.hmac ++ params) at long in
          let last : drop (at + length mac) bytes ≡ params = ap (λ (n : ℕ). drop (at + n) bytes) as_long ∙ behind in
          ap (λ (l : List ℕ). l ++ (mac ++ drop (at + length mac) bytes)) first
          ∙ ap (λ (l : List ℕ). front ++ (mac ++ l)) last
          ∙ ap (λ (n : ℕ). before body a.session a.nonce a.attrs n ++ (mac ++ params)) (sym as_long)
          ∙ sym (parts body (re_signed a mac));
    }

-- ---- the sealed command

same_auth : (a : Auth) (session : ℕ) (nonce : List ℕ) (attrs : ℕ) → a.session ≡ session → a.nonce ≡ nonce
    → a.attrs ≡ attrs → a ≡ record { session = session; nonce = nonce; attrs = attrs; hmac = a.hmac }
same_auth a session nonce attrs e f g =
    let with : ℕ → List ℕ → ℕ → Auth = λ x y z. record { session = x; nonce = y; attrs = z; hmac = a.hmac } in
    ap (λ (x : ℕ). with x a.nonce a.attrs) e ∙ ap (λ (y : List ℕ). with session y a.attrs) f ∙ ap (λ (z : ℕ). with session nonce z) g

-- a command that is sealed but for its HMAC
pub record IsUnsigned (s : Seal) (a : Auth) (bytes : List ℕ) : Type 0 where
  pub names : length s.names ≡ length (handles_of s.body)
  pub auth : a ≡ re_signed (seal_auth s) a.hmac
  pub hmac : length a.hmac ≡ digest_len s.caller.hash
  pub spelled : bytes ≡ spelling command (with_auths s.body (a ∷ []))

pub unsigned : (s : Seal) (a : Auth) (bytes : List ℕ) (attrs : ℕ) → length s.names ≡ length (handles_of s.body)
    → a.session ≡ s.caller.handle → a.nonce ≡ s.nonce → a.attrs ≡ attrs → attrs ≡ attrs_for s.keep
    → length a.hmac ≡ digest_len s.caller.hash → bytes ≡ spelling command (with_auths s.body (a ∷ [])) → IsUnsigned s a bytes
unsigned s a bytes attrs names session nonce its kept long is = record {
  names = names;
  auth = same_auth a s.caller.handle s.nonce (attrs_for s.keep) session nonce (its ∙ kept);
  hmac = long;
  spelled = is;
}

-- where its HMAC is put
pub room : (s : Seal) (a : Auth) (bytes : List ℕ) → IsUnsigned s a bytes → hmac_at s.names s.nonce + digest_len s.caller.hash ≤ length bytes
room s a bytes u =
    let p = places s.body s.names a bytes u.names u.spelled in
    let nonce : a.nonce ≡ s.nonce = ap (λ (x : Auth). x.nonce) u.auth in
    omega (arith, p.room, u.hmac, ap length nonce)

-- what is hashed of it
behind : (s : Seal) (a : Auth) (bytes : List ℕ) → IsUnsigned s a bytes → drop (hmac_at s.names s.nonce + digest_len s.caller.hash) bytes ≡ command_params s.body
behind s a bytes u =
    let nonce : a.nonce ≡ s.nonce = ap (λ (x : Auth). x.nonce) u.auth in
    ap (λ (n : List ℕ). drop (hmac_at s.names n + digest_len s.caller.hash) bytes) (sym nonce)
    ∙ ap (λ (k : ℕ). drop (hmac_at s.names a.nonce + k) bytes) (sym u.hmac)
    ∙ (places s.body s.names a bytes u.names u.spelled).params

pub one_mac : (s : Seal) (key params : List ℕ) (code : CommandCode) (attrs : ℕ) → code ≡ code_for s.body
    → attrs ≡ attrs_for s.keep → key ≡ hmac_key s.caller.hash (seal_key s) → params ≡ command_params s.body
    → hmac s.caller.hash (whole_key key [])
    (mac_text (cp_hash s.caller.hash (code_number code) s.names params) s.nonce s.caller.nonce attrs)
    ≡ hmac s.caller.hash (seal_key s) (seal_text s)
one_mac s key params code attrs c k y p =
    let text = mac_text (cp_hash s.caller.hash (code_number code) s.names params) s.nonce s.caller.nonce attrs in
    ap (λ (l : List ℕ). hmac s.caller.hash l text) (append-nil key ∙ y) ∙ one_hmac s.caller.hash (seal_key s) text ∙ rw (c, k, p) refl

-- With its HMAC it is the sealed command.
pub signed : (s : Seal) (a : Auth) (bytes new key : List ℕ) (code : CommandCode) (attrs : ℕ) → IsUnsigned s a bytes
    → code ≡ code_for s.body → attrs ≡ attrs_for s.keep → key ≡ hmac_key s.caller.hash (seal_key s)
    → new
    ≡ with_hmac (hmac_at s.names s.nonce)
    (hmac s.caller.hash (whole_key key [])
    (mac_text
    (cp_hash s.caller.hash (code_number code) s.names
    (drop (hmac_at s.names s.nonce + digest_len s.caller.hash) bytes)) s.nonce s.caller.nonce attrs))
    bytes
    → new ≡ sealed s
signed s a bytes new key code attrs u c k y is =
    let mac = hmac s.caller.hash (seal_key s) (seal_text s) in
    let nonce : a.nonce ≡ s.nonce = ap (λ (x : Auth). x.nonce) u.auth in
    let p = places s.body s.names a bytes u.names u.spelled in
    is
    ∙ ap (λ (m : List ℕ). with_hmac (hmac_at s.names s.nonce) m bytes)
    (one_mac s key (drop (hmac_at s.names s.nonce + digest_len s.caller.hash) bytes) code attrs c k y
    (behind s a bytes u))
    ∙ ap (λ (n : List ℕ). with_hmac (hmac_at s.names n) mac bytes) (sym nonce)
    ∙ p.signed mac (length-hmac s.caller.hash (seal_key s) (seal_text s) ∙ sym u.hmac)
    ∙ ap (λ (x : Auth). spelling command (with_auths s.body (re_signed x mac ∷ []))) u.auth

-- ---- it has a spelling

one_length : (a : Auth) (mac : List ℕ) → length mac ≡ length a.hmac → length (one_session (re_signed a mac)) ≡ length (one_session a)
one_length a mac same = length-session (re_signed a mac) ∙ ap (session_len a.nonce) same ∙ sym (length-session a)

pub session_long : (a : Auth) → length (spelling auth_command a) ≡ session_len a.nonce (length a.hmac)
unfolding one_session
session_long a = ap length (sym (append-nil (spelling auth_command a))) ∙ length-session a

session_fits : (left k : ℕ) (a : Auth) (mac : List ℕ) → length mac ≡ length a.hmac → Fits left auth_command a → Fits k auth_command (re_signed a mac)
unfolding auth_command auth_session session_attrs sized_bytes
session_fits left k a mac same f = (
  f.0,
  (
    f.1.0,
    (
      f.1.1.0,
      (
        (
          subst (λ (n : ℕ). (n < 256 ^ 2) × ((if nat_le n digest_bytes then Some n else None) ≡ Some n))
              (sym same) f.1.1.1.0.0,
          (refl, refl),
        ),
        refl,
      ),
    ),
  ),
)

area_fits : (left : ℕ) (a : Auth) (mac : List ℕ) → length mac ≡ length a.hmac
    → Fits left (authorization 0x8002) (a ∷ []) → Fits left (authorization 0x8002) (re_signed a mac ∷ [])
unfolding authorization authorization_size sessions one_session
area_fits left a mac same f =
    let b = re_signed a mac in
    let e : length (one_session b) ≡ length (one_session a) = one_length a mac same in
    let one : length (spelling auth_command b) ≡ length (spelling auth_command a) = session_long b ∙ ap (session_len a.nonce) same ∙ sym (session_long a) in
    let end : length (one_session a) - length (spelling auth_command a) ≡ length (one_session b) - length (spelling auth_command b) = rw (e, one) refl in (
      subst (λ (n : ℕ). Fits left authorization_size n) (sym e) f.0,
      (
        refl,
        (
          subst (λ (n : ℕ). 0 < n) (sym one) f.1.1.0,
          session_fits (length (one_session a)) (length (one_session b)) a mac same f.1.1.1,
          subst (λ (n : ℕ). (◌≡◌ {A = ℕ} 2 0) ⊎ ((true ≡ true) × (n ≡ 0))) end f.1.1.2,
        ),
      ),
    )

area_length : (a : Auth) (mac : List ℕ) → length mac ≡ length a.hmac
    → length (spelling (authorization 0x8002) (re_signed a mac ∷ []))
    ≡ length (spelling (authorization 0x8002) (a ∷ []))
unfolding authorization authorization_size sessions one_session
area_length a mac same = omega (arith, one_length a mac same)

rest_fits : (body : CommandBody) (left : ℕ) (a : Auth) (mac : List ℕ) → length mac ≡ length a.hmac
    → Fits left (rest_of (code_for body) 0x8002) (with_auths body (a ∷ []))
    → Fits left (rest_of (code_for body) 0x8002) (with_auths body (re_signed a mac ∷ []))
rest_fits body left a mac same f = (
  f.0,
  (
    area_fits (left - length (handle_bytes body)) a mac same f.1.0,
    (
      subst (λ (n : ℕ). Fits (left - length (handle_bytes body) - n) (parameters (code_for body)) (params_of body)) (sym (area_length a mac same)) f.1.1.0,
      ap (λ (c : Command). with_auths c.body (re_signed a mac ∷ [])) f.1.1.1,
    ),
  ),
)

command_fits : (body : CommandBody) (n : ℕ) (a : Auth) (mac : List ℕ) → length mac ≡ length a.hmac
    → Fits n command (with_auths body (a ∷ [])) → Fits n command (with_auths body (re_signed a mac ∷ []))
unfolding command
command_fits body n a mac same f =
    let head : header_of (with_auths body (a ∷ [])) ≡ header_of (with_auths body (re_signed a mac ∷ [])) =
    ap (header_for body)
    (size_is body a ∙ ap (total body a.nonce) (sym same) ∙ sym (size_is body (re_signed a mac))) in (
      subst (λ (h : Header). Fits n header h) head f.0,
      subst
          (λ (h : Header).
          Fits (n - length (spelling header h)) (rest_of (code_for body) 0x8002)
          (with_auths body (re_signed a mac ∷ []))) head
          (rest_fits body (n - length (spelling header (header_of (with_auths body (a ∷ []))))) a mac same f.1),
    )

-- What has a spelling is spelled by it.
pub spelled_so : (s : Seal) → HasSpelling s → IsSpelled s
spelled_so s fits = record { fits = fits; spells = has_spelling (sealed_command s) fits }

-- The sealed command has a spelling, as it has without its HMAC.
pub sealed_spelled : (s : Seal) (a : Auth) (bytes : List ℕ) → IsUnsigned s a bytes → Fits (length bytes) command (with_auths s.body (a ∷ [])) → IsSpelled s
sealed_spelled s a bytes u f =
    let mac = hmac s.caller.hash (seal_key s) (seal_text s) in
    let long : length mac ≡ length a.hmac = length-hmac s.caller.hash (seal_key s) (seal_text s) ∙ sym u.hmac in
    let made : re_signed a mac ≡ seal_auth s = ap (λ (x : Auth). re_signed x mac) u.auth in
    let sizes : length bytes ≡ length (sealed s) =
    ap length (u.spelled ∙ parts s.body a)
    ∙ lengths (before s.body a.session a.nonce a.attrs (length a.hmac))
    (before s.body a.session a.nonce a.attrs (length mac)) a.hmac mac (command_params s.body)
    (ap (λ (k : ℕ). length (before s.body a.session a.nonce a.attrs k)) (sym long)) (sym long)
    ∙ ap length (sym (parts s.body (re_signed a mac))) ∙ ap (λ (x : Auth). length (spelling command (with_auths s.body (x ∷ [])))) made in
    spelled_so s (subst (λ (x : Auth). Fits (length (sealed s)) command (with_auths s.body (x ∷ []))) made
    (command_fits s.body (length (sealed s)) a mac long
    (subst (λ (n : ℕ). Fits n command (with_auths s.body (a ∷ []))) sizes f)))
  where
    lengths : (one two mac other params : List ℕ) → length one ≡ length two → length mac ≡ length other
        → length (one ++ (mac ++ params)) ≡ length (two ++ (other ++ params))
    lengths one two mac other params e f = simp length-append (omega (arith, e, f))
