-- The parts of a command's view are those bytes of the command.
use Rattle.std.proofs.Common.{◌≡◌, ◌≢◌, ℕ, ◌+◌, ◌*◌, ◌<◌, true, false, eqb, List, [], ◌∷◌, ◌++◌, length, take, drop}
use Rattle.std.proofs.Common.{Some, refl, ap, ◌∙◌, arith, append_assoc, append-nil, length-append}
use Rattle.std.specs.Int.{bytes_high_first}
use Rattle.tpm_wire.specs.Spelling.{spelling, joined}
use Rattle.tpm_wire.specs.Structures.{sized_bytes}
use Rattle.tpm_types.specs.declared.tpms.Auth.{Auth}
use Rattle.tpm_types.specs.Handles.{auth_session}
use Rattle.tpm_types.specs.Tpma.{session_attrs}
use Rattle.tpm_types.specs.Tpms.{auth_command}
use Rattle.tpm_commands.specs.declared.command_handles.HandleKind.{HandleKind}
use Rattle.tpm_commands.specs.declared.command.Header.{Header}
use Rattle.tpm_types.specs.CommandCodes.{command_code}
use Rattle.tpm_commands.specs.Handles.{handles, handles_from, handle_kinds, others}
use Rattle.tpm_buffer.specs.Commands.{header, tag, command_size, authorization, authorization_size, sessions}
use Rattle.tpm_buffer.specs.CommandAreas.{Cut, IsSpelledBy}
use Rattle.tpm_c.specs.CommandViews.{HoldsSession, HoldsParts, behind, first_place}
use Rattle.tpm_c.proofs.Parts.{part_is, AreHeld, first_three}

session_long : (a : Auth) → length (spelling auth_command a) ≡ 9 + length a.nonce + length a.hmac
unfolding auth_command auth_session session_attrs sized_bytes
session_long a = simp length-append (omega arith)

to_nonce : (before h s nonce a t hmac after : List ℕ) → before ++ ((h ++ ((s ++ nonce) ++ (a ++ ((t ++ hmac) ++ [])))) ++ after)
    ≡ (before ++ (h ++ s)) ++ (nonce ++ (a ++ (t ++ (hmac ++ after))))
to_nonce before h s nonce a t hmac after = simp (append_assoc, append-nil)

to_hmac : (before h s nonce a t hmac after : List ℕ) → before ++ ((h ++ ((s ++ nonce) ++ (a ++ ((t ++ hmac) ++ [])))) ++ after)
    ≡ (before ++ (h ++ (s ++ (nonce ++ (a ++ t))))) ++ (hmac ++ after)
to_hmac before h s nonce a t hmac after = simp (append_assoc, append-nil)

-- a session behind so many bytes
session_is : (before after bytes : List ℕ) (a : Auth) (n : ℕ)
    → bytes ≡ before ++ (spelling auth_command a ++ after) → length before ≡ n → HoldsSession bytes n (Some a)
unfolding auth_command auth_session session_attrs sized_bytes
session_is before after bytes a n is count =
    let handle = bytes_high_first 4 a.session in
    let size = bytes_high_first 2 (length a.nonce) in
    let attrs = bytes_high_first 1 a.attrs in
    let hmac_size = bytes_high_first 2 (length a.hmac) in
    let one = to_nonce before handle size a.nonce attrs hmac_size a.hmac after in
    let two = to_hmac before handle size a.nonce attrs hmac_size a.hmac after in (
      part_is _ a.nonce _ bytes (n + 6) (is ∙ one) (simp length-append (omega (arith, count))),
      part_is _ a.hmac _ bytes (n + 9 + length a.nonce) (is ∙ two) (simp length-append (omega (arith, count))),
    )

abbrev text : List Auth → List Auth → List ℕ
text seen auths = joined (λ _. spelling auth_command) seen auths

-- these sessions behind so many bytes
are_held : (before after bytes : List ℕ) (seen auths : List Auth) (n : ℕ)
    → bytes ≡ before ++ (text seen auths ++ after) → length before ≡ n → AreHeld (HoldsSession bytes) behind n auths
are_held before after bytes seen [] n is count = tt
are_held before after bytes seen (a ∷ auths) n is count =
    let one = spelling auth_command a in
    let others = text (seen ++ a ∷ []) auths in (
      session_is before (others ++ after) bytes a n (is ∙ ap (λ (r : List ℕ). before ++ r) (append_assoc one others after)) count,
      are_held (before ++ one) after bytes (seen ++ a ∷ []) auths
          (behind n (Some a)) (is ∙ simp append_assoc) (omega (arith, count, session_long a, length-append before one)),
    )

header_long : (h : Header) → length (spelling header h) ≡ 10
unfolding header tag command_size command_code
header_long h = simp length-append

handles_long : (i : ℕ) (kinds : List HandleKind) (hs : List ℕ) → length (spelling (handles_from i kinds) hs) ≡ 4 * length kinds
handles_long i [] hs = refl
handles_long i (kind ∷ kinds) hs = simp length-append (omega (arith, handles_long (i + 1) kinds (others hs)))

-- where there are sessions, the tag says so
is_tagged : (t : ℕ) (auths : List Auth) → 0 < length auths → (t ≢ 0x8002 → length auths ≡ 0) → eqb t 0x8002 ≡ true
is_tagged t auths some none = elim (eqb t 0x8002) as (λ b. eqb t 0x8002 ≡ b → b ≡ true) [
  | true ↦ λ e. refl
  | false ↦ λ e. absurd (omega (arith, some, none (λ is. cc)))
] refl

authorization_is : (t : ℕ) (auths : List Auth) → eqb t 0x8002 ≡ true
    → spelling (authorization t) auths ≡ bytes_high_first 4 (length (text [] auths)) ++ text [] auths
unfolding authorization authorization_size sessions
authorization_is t auths e = rw e refl

front : (c : Cut) → List ℕ
front c = spelling header c.header ++ (spelling (handles c.header.code) c.handles ++ bytes_high_first 4 (length (text [] c.auths)))

sessions_are : (bytes : List ℕ) (c : Cut) → IsSpelledBy bytes c → eqb c.header.tag 0x8002 ≡ true → AreHeld (HoldsSession bytes) behind (first_place c) c.auths
unfolding front
sessions_are bytes c s tagged =
    are_held (front c) c.params bytes [] c.auths (first_place c) (s.text ∙ rw (authorization_is c.header.tag c.auths tagged) (simp append_assoc))
    (simp length-append (omega (arith, header_long c.header, handles_long 1 (handle_kinds c.header.code) c.handles)))

-- the parameters stand at the end
params_are : (bytes : List ℕ) (c : Cut) → IsSpelledBy bytes c
    → c.params_at + length c.params ≡ length bytes → take (length c.params) (drop c.params_at bytes) ≡ c.params
params_are bytes c s whole =
    let before = spelling header c.header ++ (spelling (handles c.header.code) c.handles ++ spelling (authorization c.header.tag) c.auths) in
    let is : bytes ≡ before ++ (c.params ++ []) = s.text ∙ simp (append_assoc, append-nil) in
    part_is before c.params [] bytes c.params_at is (omega (arith, whole, ap length is, length-append before (c.params ++ []), length-append c.params []))

pub holds_parts : (bytes : List ℕ) (c : Cut) → IsSpelledBy bytes c → c.params_at + length c.params ≡ length bytes → HoldsParts bytes c
holds_parts bytes c s whole = go c.auths refl
  where
    go : (auths : List Auth) → c.auths ≡ auths → HoldsParts bytes c
    go [] e = rw e (tt, tt, tt, params_are bytes c s whole)
    go (a ∷ auths) e =
        let h = first_three (HoldsSession bytes) behind (λ n. tt) (first_place c) c.auths
        (sessions_are bytes c s (is_tagged c.header.tag c.auths (rw e (omega arith)) s.none)) in
        (h.0, h.1, h.2, params_are bytes c s whole)
