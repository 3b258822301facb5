-- The parameters of a reply as they came are the spelling of those that were read.
use Rattle.std.proofs.Common.{◌≡◌, ℕ, ◌+◌, ◌-◌, ◌≤◌, ◌<◌, ◌^◌, List, [], ◌∷◌, ◌++◌, length, take, drop, Ok, Some, None}
use Rattle.std.proofs.Common.{Bool, true, false, refl, sym, ap, ◌∙◌, subst, arith, length-append, length-drop}
use Rattle.std.proofs.lemmas.Bool.{eqb-true, leb-true}
use Rattle.std.proofs.lemmas.List.{take_at}
use Rattle.std.specs.Prelude.{◌==◌, ◌&&◌, nat_le, if◌then◌else◌}
use Rattle.tpm_wire.specs.declared.refusal.Refusal.{Refusal}
use Rattle.tpm_wire.specs.Buffers.{buffer, Layout}
use Rattle.tpm_wire.specs.Layout.Form.{done, field}
use Rattle.tpm_wire.specs.Layout.{either, raw, remaining}
use Rattle.tpm_wire.specs.Token.{Here, at_start, number_of, or_fault}
use Rattle.tpm_wire.specs.Reading.{read, read_all, ◌>>=◌}
use Rattle.tpm_wire.specs.Path.{Spells}
use Rattle.tpm_wire.specs.Spelling.{spelling}
use Rattle.tpm_wire.proofs.Agreement.{bind_ok, number_ok}
use Rattle.tpm_wire.proofs.Buffers.{buffer_sound}
use Rattle.tpm_wire.proofs.Numbers.{number_of-bytes}
use Rattle.tpm_wire.proofs.Whole.{spells_read}
use Rattle.tpm_types.specs.declared.tpms.AuthReply.{AuthReply}
use Rattle.tpm_types.specs.declared.command_code.CommandCode.{CommandCode}
use Rattle.tpm_commands.specs.declared.command.ReplyBody.{ReplyBody}
use Rattle.tpm_commands.specs.Handles.{needs_authorization}
use Rattle.tpm_commands.specs.Replies.{code_for_reply, reply_handles, reply_handles_of}
use Rattle.tpm_commands.specs.declared.command.ReplyBody.TheVariants as replies
use Rattle.tpm_buffer.specs.Commands.{command_size}
use Rattle.tpm_buffer.specs.Responses.{is_response_tag, response_tag, response_front, parameter_size, reply_sessions}
use Rattle.tpm_buffer.specs.Responses.{size_of_response, response, done_with, ReplyCut, raw_with_sessions}
use Rattle.tpm_buffer.specs.Responses.{raw_without_sessions, cut_behind_code, reply_cut}
use Rattle.tpm_buffer.proofs.Places.{raw_is}
use Rattle.tpm_buffer.proofs.Parted.{answers}
use Rattle.tpm_model.specs.Answers.{reply_params}
use Rattle.tpm_model.proofs.Sealing.{okay_is}
use Rattle.tpm_model.proofs.ReplySessions.{no_handles, from_start, fronted}
use Rattle.tpm_model.proofs.ReplyBytes.{session_text, reply_bytes, code_at, size_place}
use Rattle.tpm_model.proofs.Mixed.{one_reply}
use Rattle.tpm_caller.specs.inner.Checking.{IsSpelledBy}

-- ---- the parameters of a cut

-- what stands there by its size
abbrev by_size : List ℕ → List ℕ
by_size rest = take (number_of (take 4 rest)) (drop 4 rest)

abbrev pub none : Layout (List ℕ)
none = done []

with_params : (n : ℕ) (hs : List ℕ) (h : Here) (x : ReplyCut × Here) → read 0 (raw_with_sessions n hs) h ≡ Ok x → x.0.params ≡ by_size h.rest
unfolding raw_with_sessions
with_params n hs h x e =
    let s = bind_ok (read 0 parameter_size h) _ x e in
    let p = bind_ok (read {r = buffer} 0 (raw s.0.0) s.0.1) _ x s.2 in
    let q = bind_ok (read 0 reply_sessions p.0.1) _ x p.2 in
    let made : ReplyCut = record { code = n; handles = hs; params = p.0.0; auths = q.0.0 } in
    let size = size_place h s.0 s.1 in
    sym (ap (λ (z : ReplyCut × Here). z.0.params) (okay_is {E = Refusal} (made, q.0.1) x q.2))
    ∙ raw_is 0 s.0.0 s.0.1 p.0.1 p.0.0 p.1
    ∙ ap (λ (k : ℕ). take k s.0.1.rest) (sym size.0)
    ∙ ap (λ (g : Here). take (number_of (take 4 h.rest)) g.rest) size.1

pub without_auths : (n : ℕ) (hs : List ℕ) (h : Here) (x : ReplyCut × Here) → read 0 (raw_without_sessions n hs) h ≡ Ok x → x.0.auths ≡ []
unfolding raw_without_sessions
without_auths n hs h x e =
    let p = bind_ok (read {r = buffer} 0 remaining h) _ x e in
    let made : ReplyCut = record { code = n; handles = hs; params = p.0.0; auths = [] } in
    sym (ap (λ (z : ReplyCut × Here). z.0.auths) (okay_is {E = Refusal} (made, p.0.1) x p.2))

-- the cut behind a code of 0
abbrev pub raw_behind : Bool → ℕ → List ℕ → Layout ReplyCut
raw_behind two n hs = either two (raw_with_sessions n hs) (raw_without_sessions n hs)

behind_params : (two : Bool) (n : ℕ) (h : Here) (x : ReplyCut × Here) (a : AuthReply) → x.0.auths ≡ a ∷ []
    → read 0 (raw_behind two n []) h ≡ Ok x → x.0.params ≡ by_size h.rest
behind_params true n h x a one e = with_params n [] h x e
behind_params false n h x a one e = absurd (let k : [] ≡ a ∷ [] = sym (without_auths n [] h x e) ∙ one in let z : ⊥ = cc in z)

code_params : (code : CommandCode) (t n : ℕ) (h : Here) (x : ReplyCut × Here) (a : AuthReply)
    → needs_authorization code ≡ true → x.0.auths ≡ a ∷ [] → read 0 (cut_behind_code code t n) h ≡ Ok x
    → x.0.params ≡ by_size h.rest
code_params code t n h x a needs one e = go (n == 0) e
  where
    alone : ReplyCut
    alone = record { code = n; handles = []; params = []; auths = [] }

    go : (zero : Bool)
        → read 0
        (either zero (field (λ c. c.handles) (reply_handles code) (λ hs. raw_behind (t == 0x8002) n hs))
        (done alone)) h
        ≡ Ok x
        → x.0.params ≡ by_size h.rest
    go true e =
        behind_params (t == 0x8002) n h x a one
        (subst (λ (l : Layout (List ℕ)). (read 0 l h >>= λ y. read 0 (raw_behind (t == 0x8002) n y.0) y.1) ≡ Ok x)
        (no_handles code needs) e)
    go false e = absurd (let k : [] ≡ a ∷ [] = ap (λ (z : ReplyCut × Here). z.0.auths) (okay_is {E = Refusal} (alone, h) x e) ∙ one in let z : ⊥ = cc in z)

-- ---- the buffer is short

small_size : (b c d : Bool) (n k : ℕ) → b ≡ (n == k + 6) → d ≡ nat_le n 4096 → (y : ℕ)
    → or_fault {F = ℕ} (if b && c && d then Some n else None) 0x142 ≡ Ok y → k + 6 ≤ 4096
small_size true true true n k e f y is = omega (arith, eqb-true n (k + 6) (sym e), leb-true n 4096 (sym f))
small_size _ _ _ n k e f y is = absurd (let z : ⊥ = cc in z)

size_short : (h : Here) (x : ℕ × Here) → read 0 command_size h ≡ Ok x → length h.rest - 4 + 6 ≤ 4096
unfolding command_size
size_short h x e =
    let m = number_ok buffer buffer_sound 0 4 (λ left n. if (n == left + 6) && nat_le 10 n && nat_le n 4096 then Some n else None) (λ n. n) 0x142 h x e in
    let n = number_of (take 4 h.rest) in
    let left = length h.rest - 4 in
    small_size (n == left + 6) (nat_le 10 n) (nat_le n 4096) n left refl refl x.0 m.1

front_short : (bytes : List ℕ) (x : (ℕ × ℕ) × Here) → read 0 response_front (at_start bytes) ≡ Ok x → length bytes ≤ 4096
unfolding response_front response_tag
front_short bytes x e =
    let a = bind_ok (read 0 response_tag (at_start bytes)) _ x e in
    let b = bind_ok (read 0 command_size a.0.1) _ x a.2 in
    let n = number_ok buffer buffer_sound 0 2 (λ left n. if is_response_tag n then Some n else None) (λ n. n) 0x01E (at_start bytes) a.0 a.1 in
    let there : length a.0.1.rest ≡ length bytes - 2 = ap (λ (g : Here). length g.rest) (sym n.2) ∙ length-drop 2 bytes in
    omega (arith, there, size_short a.0.1 b.0 b.1)

-- ---- the whole

record CutPlaces (bytes : List ℕ) (c : ReplyCut) : Type 0 where
  short : length bytes ≤ 4096
  params : c.params ≡ by_size (drop 4 (drop 4 (drop 2 bytes)))

cut_places : (code : CommandCode) (bytes : List ℕ) (c : ReplyCut) (a : AuthReply) → needs_authorization code ≡ true
    → c.auths ≡ a ∷ [] → read_all (reply_cut code) bytes ≡ Ok c → CutPlaces bytes c
unfolding reply_cut
cut_places code bytes c a needs one e =
    let whole = from_start (read 0 (reply_cut code) (at_start bytes)) c e in
    let p = fronted (λ t n. read 0 (cut_behind_code code t n)) bytes (c, whole.0) whole.1 in
    record {
      short = front_short bytes p.front p.begins;
      params =
          code_params code p.front.0.0 p.code.0 p.code.1 (c, whole.0) a needs one p.last
          ∙ ap (λ (g : Here). by_size g.rest) (code_at (λ t n. read 0 (cut_behind_code code t n)) bytes (c, whole.0) p);
    }

none_spelled : (body : ReplyBody) → needs_authorization (code_for_reply body) ≡ true
    → spelling (reply_handles (code_for_reply body)) (reply_handles_of body) ≡ []
none_spelled (replies.StartAuthSession reply) e = absurd (let z : ⊥ = cc in z)
none_spelled _ e = refl

by_size_is : (size : ℕ) (params n : List ℕ) (f : ℕ) (m : List ℕ) → length (reply_bytes size params n f m []) ≤ 4096
    → by_size (drop 4 (drop 4 (drop 2 (reply_bytes size params n f m [])))) ≡ params
by_size_is size params n f m short =
    let few : length params < 256 ^ 4 = omega (arith, length-append params (session_text n f m [])) in
    ap (λ (k : ℕ). take k (params ++ session_text n f m [])) (number_of-bytes 4 (length params) few)
    ∙ take_at params (session_text n f m []) (length params) refl

pub params_are : (code : CommandCode) (bytes : List ℕ) (c : ReplyCut) (body : ReplyBody) (a : AuthReply)
    → needs_authorization code ≡ true → IsSpelledBy bytes code body (a ∷ []) → Spells (reply_cut code) c bytes
    → c.auths ≡ a ∷ [] → c.params ≡ reply_params body
params_are code bytes c body a needs spelled cut one =
    let p = cut_places code bytes c a needs one (spells_read buffer buffer_sound (reply_cut code) bytes c cut) in
    let own : code ≡ code_for_reply body = answers code bytes (done_with (record { body = body; auths = a ∷ [] })) spelled.spells in
    let size = size_of_response (code_for_reply body) (done_with (record { body = body; auths = a ∷ [] })) in
    let is : bytes ≡ reply_bytes size (reply_params body) a.nonce a.attrs a.hmac [] =
    spelled.is
    ∙ ap (λ (k : CommandCode). spelling (response k) (done_with (record { body = body; auths = a ∷ [] }))) own
    ∙ one_reply body a (none_spelled body (ap needs_authorization (sym own) ∙ needs)) in
    p.params
    ∙ ap (λ (l : List ℕ). by_size (drop 4 (drop 4 (drop 2 l)))) is
    ∙ by_size_is size (reply_params body) a.nonce a.attrs a.hmac
    (subst (λ (l : List ℕ). length l ≤ 4096) is p.short)
