-- What the cut of a reply tells of the whole response.
use Rattle.std.proofs.Common.{◌≡◌, ◌≢◌, ℕ, Bool, true, false, List, [], ◌∷◌, length, take, Ok, Some, None, Option, refl}
use Rattle.std.proofs.Common.{sym, ap, ◌∙◌, subst}
use Rattle.std.proofs.lemmas.Bool.{eq-eqb}
use Rattle.std.proofs.lemmas.List.{nil_from_length}
use Rattle.std.specs.Prelude.{◌==◌, if◌then◌else◌}
use Rattle.tpm_wire.specs.declared.refusal.Refusal.{Refusal}
use Rattle.tpm_wire.specs.Buffers.{buffer, Layout}
use Rattle.tpm_wire.specs.Layout.Form.{done, field, area}
use Rattle.tpm_wire.specs.Layout.{either, raw}
use Rattle.tpm_wire.specs.Token.{Here, past, at_start}
use Rattle.tpm_wire.specs.Reading.{read, read_all, refuse, unless, ◌>>=◌}
use Rattle.tpm_wire.specs.ResponseCodes.{rc_size}
use Rattle.tpm_wire.specs.Path.{Spells}
use Rattle.tpm_wire.proofs.Agreement.{bind_ok}
use Rattle.tpm_wire.proofs.Buffers.{buffer_sound}
use Rattle.tpm_wire.proofs.Whole.{spells_read}
use Rattle.tpm_types.specs.declared.tpms.AuthReply.{AuthReply}
use Rattle.tpm_types.specs.declared.command_code.CommandCode.{CommandCode}
use Rattle.tpm_commands.specs.declared.command.ReplyBody.{ReplyBody}
use Rattle.tpm_commands.specs.declared.response.Response.{Response}
use Rattle.tpm_commands.specs.Handles.{needs_authorization}
use Rattle.tpm_commands.specs.Replies.{reply_handles, reply_parameters}
use Rattle.tpm_types.specs.declared.command_code.CommandCode.TheVariants as codes
use Rattle.tpm_commands.specs.declared.command.ReplyBody.TheVariants as replies
use Rattle.tpm_commands.specs.declared.response.Response.TheVariants as responses
use Rattle.tpm_buffer.specs.Responses.{parameter_size, reply_sessions, Reply, with_sessions, without_sessions}
use Rattle.tpm_buffer.specs.Responses.{reply_behind, reply, reply_of, done_with, behind_code, response, ReplyCut}
use Rattle.tpm_buffer.specs.Responses.{raw_with_sessions, cut_behind_code, reply_cut}
use Rattle.tpm_model.specs.Answers.{reply_params}
use Rattle.tpm_model.specs.Callers.{WrongMac, Waiting, opened_response}
use Rattle.tpm_model.proofs.Sealing.{okay, okay_is}
use Rattle.tpm_model.proofs.ReplySessions.{goes_on, no_handles, from_start, fronted, fronted_too}
use Rattle.tpm_caller.specs.declared.waiting.CallerFault.TheVariants as faults
use Rattle.tpm_caller.specs.Faults.{HasFirstFault}
use Rattle.tpm_caller.proofs.Opening.{HasMac, only, other_mac}
use Rattle.tpm_caller.proofs.ReplyParams.{without_auths, raw_behind}
use Rattle.tpm_caller.specs.inner.Checking.{has_no_params}

-- ---- a reply without parameters

raw_area : (body : ReplyBody) (n : ℕ) (h : Here) (p : List ℕ × Here) → length p.0 ≡ 0
    → read {r = buffer} 0 (raw n) h ≡ Ok p → read {r = buffer} 0 (area n rc_size (done body)) h ≡ Ok (body, p.1)
raw_area body n h p empty e = go (buffer.lacks 0 h.at n (length h.rest)) e
  where
    go : (o : Option ℕ) → unless {A = List ℕ × Here} buffer o 0 h (okay {E = Refusal} (take n h.rest, past n h)) ≡ Ok p
        → unless {A = ReplyBody × Here} buffer o 0 h
        (if length (take n h.rest) == 0 then okay {E = Refusal} (body, past n h)
        else refuse buffer 0 rc_size (record { rest = take n h.rest; at = h.at }))
        ≡ Ok (body, p.1)
    go None e =
        let same = okay_is {E = Refusal} (take n h.rest, past n h) p e in
        rw (eq-eqb (length (take n h.rest)) 0 (ap (λ (z : List ℕ × Here). length z.0) same ∙ empty))
        (ap (λ (z : List ℕ × Here). okay {E = Refusal} (body, z.1)) same)
    go (Some fault) e = absurd (let z : ⊥ = cc in z)

abbrev plain : ReplyBody → List AuthReply → Reply
plain body auths = record { body = body; auths = auths }

with_plain : (body : ReplyBody) (n : ℕ) (h : Here) (x : ReplyCut × Here) → length x.0.params ≡ 0
    → read 0 (raw_with_sessions n []) h ≡ Ok x → read 0 (with_sessions (done body)) h ≡ Ok (plain body x.0.auths, x.1)
unfolding raw_with_sessions with_sessions
with_plain body n h x empty e =
    let s = bind_ok (read 0 parameter_size h) _ x e in
    let p = bind_ok (read {r = buffer} 0 (raw s.0.0) s.0.1) _ x s.2 in
    let q = bind_ok (read 0 reply_sessions p.0.1) _ x p.2 in
    let made : ReplyCut = record { code = n; handles = []; params = p.0.0; auths = q.0.0 } in
    let same = okay_is {E = Refusal} (made, q.0.1) x q.2 in
    let inside = raw_area body s.0.0 s.0.1 p.0 (ap (λ (z : ReplyCut × Here). length z.0.params) same ∙ empty) p.1 in
    goes_on (read 0 parameter_size h) _ s.0 _ s.1
    (goes_on (read {r = buffer} 0 (area s.0.0 rc_size (done body)) s.0.1) _ (body, p.0.1) _ inside
    (goes_on (read 0 reply_sessions p.0.1) _ q.0 _ q.1
    (ap (λ (z : ReplyCut × Here). okay {E = Refusal} (plain body z.0.auths, z.1)) same)))

plain_in : (two : Bool) (body : ReplyBody) (n : ℕ) (h : Here) (x : ReplyCut × Here) (a : AuthReply)
    → length x.0.params ≡ 0 → x.0.auths ≡ a ∷ [] → read 0 (raw_behind two n []) h ≡ Ok x
    → read 0 (either two (with_sessions (done body)) (without_sessions (done body))) h ≡ Ok (plain body x.0.auths, x.1)
plain_in true body n h x a empty one e = with_plain body n h x empty e
plain_in false body n h x a empty one e = absurd (let k : [] ≡ a ∷ [] = sym (without_auths n [] h x e) ∙ one in let z : ⊥ = cc in z)

plain_behind : (code : CommandCode) (t n : ℕ) (body : ReplyBody) (h : Here) (x : ReplyCut × Here) (a : AuthReply)
    → needs_authorization code ≡ true → reply_parameters code [] ≡ done body → length x.0.params ≡ 0
    → x.0.auths ≡ a ∷ []
    → read 0 (cut_behind_code code t n) h ≡ Ok x → read 0 (behind_code code t n) h ≡ Ok (done_with (plain body x.0.auths), x.1)
plain_behind code t n body h x a needs none empty one e = go (n == 0) e
  where
    alone : ReplyCut
    alone = record { code = n; handles = []; params = []; auths = [] }

    go : (b : Bool) → read 0 (either b (field (λ c. c.handles) (reply_handles code) (λ hs. raw_behind (t == 0x8002) n hs)) (done alone)) h ≡ Ok x
        → read 0 (either b (field reply_of (reply code t) (λ r. done (done_with r))) (done (responses.Code n))) h ≡ Ok (done_with (plain body x.0.auths), x.1)
    go true e =
        let inside = subst (λ (l : Layout (List ℕ)). (read 0 l h >>= λ y. read 0 (raw_behind (t == 0x8002) n y.0) y.1) ≡ Ok x) (no_handles code needs) e in
        let read_it = plain_in (t == 0x8002) body n h x a empty one inside in
        let with_it =
        subst
        (λ (l : Layout ReplyBody).
        read 0 (either (t == 0x8002) (with_sessions l) (without_sessions l)) h
        ≡ Ok (plain body x.0.auths, x.1)) (sym none) read_it in
        let whole : read 0 (reply code t) h ≡ Ok (plain body x.0.auths, x.1) =
        goes_on (read 0 (reply_handles code) h) (λ y. read 0 (reply_behind t (reply_parameters code y.0)) y.1)
        ([], h) _ (ap (λ (l : Layout (List ℕ)). read 0 l h) (no_handles code needs)) with_it in
        goes_on (read 0 (reply code t) h) (λ r. okay {E = Refusal} (done_with r.0, r.1)) (plain body x.0.auths, x.1) _ whole refl
    go false e = absurd (let k : [] ≡ a ∷ [] = ap (λ (z : ReplyCut × Here). z.0.auths) (okay_is {E = Refusal} (alone, h) x e) ∙ one in let z : ⊥ = cc in z)

-- ---- the whole

abbrev Tells : CommandCode → ReplyCut → Response → Type 0
Tells code c r = (t n : ℕ) (h g : Here) → read 0 (cut_behind_code code t n) h ≡ Ok (c, g) → read 0 (behind_code code t n) h ≡ Ok (r, g)

whole_told : (code : CommandCode) (bytes : List ℕ) (c : ReplyCut) (r : Response) → Tells code c r
    → read_all (reply_cut code) bytes ≡ Ok c → read_all (response code) bytes ≡ Ok r
unfolding reply_cut response
whole_told code bytes c r tells e =
    let whole = from_start (read 0 (reply_cut code) (at_start bytes)) c e in
    let p = fronted (λ t n. read 0 (cut_behind_code code t n)) bytes (c, whole.0) whole.1 in
    let read_it : read 0 (response code) (at_start bytes) ≡ Ok (r, whole.0) =
    fronted_too (λ t n. read 0 (cut_behind_code code t n)) (λ t n. read 0 (behind_code code t n)) bytes (c, whole.0)
    (Ok (r, whole.0)) p (tells p.front.0.0 p.code.0 p.code.1 whole.0 p.last) in
    rw (read_it, whole.2) refl

pub plain_read : (code : CommandCode) (bytes : List ℕ) (c : ReplyCut) (body : ReplyBody) (a : AuthReply)
    → needs_authorization code ≡ true → reply_parameters code [] ≡ done body → length c.params ≡ 0 → c.auths ≡ a ∷ []
    → Spells (reply_cut code) c bytes
    → read_all (response code) bytes ≡ Ok (done_with (plain body (a ∷ [])))
plain_read code bytes c body a needs none empty one s = whole_told code bytes c (done_with (plain body (a ∷ [])))
    (λ t n h g e.
    plain_behind code t n body h (c, g) a needs none empty one e
    ∙ ap (λ (l : List AuthReply). okay {E = Refusal} (done_with (plain body l), g)) one)
    (spells_read buffer buffer_sound (reply_cut code) bytes c s)

-- ---- what is opened

-- the reply without parameters that was read, whichever command it is to
record IsPlain (code : CommandCode) (bytes : List ℕ) (a : AuthReply) : Type 0 where
  body : ReplyBody
  read_as : read_all (response code) bytes ≡ Ok (done_with (plain body (a ∷ [])))
  none : reply_params body ≡ []

is_plain : (code : CommandCode) (bytes : List ℕ) (c : ReplyCut) (a : AuthReply) → has_no_params code ≡ true
    → length c.params ≡ 0 → c.auths ≡ a ∷ [] → Spells (reply_cut code) c bytes → IsPlain code bytes a
is_plain codes.NvUndefineSpace bytes c a is empty one s = record {
  body = replies.NvUndefineSpace;
  read_as = plain_read codes.NvUndefineSpace bytes c replies.NvUndefineSpace a refl refl empty one s;
  none = refl;
}
is_plain codes.NvDefineSpace bytes c a is empty one s = record {
  body = replies.NvDefineSpace;
  read_as = plain_read codes.NvDefineSpace bytes c replies.NvDefineSpace a refl refl empty one s;
  none = refl;
}
is_plain codes.NvIncrement bytes c a is empty one s = record {
  body = replies.NvIncrement;
  read_as = plain_read codes.NvIncrement bytes c replies.NvIncrement a refl refl empty one s;
  none = refl;
}
is_plain codes.PcrReset bytes c a is empty one s = record {
  body = replies.PcrReset;
  read_as = plain_read codes.PcrReset bytes c replies.PcrReset a refl refl empty one s;
  none = refl;
}
is_plain codes.PcrExtend bytes c a is empty one s = record {
  body = replies.PcrExtend;
  read_as = plain_read codes.PcrExtend bytes c replies.PcrExtend a refl refl empty one s;
  none = refl;
}
is_plain _ bytes c a is empty one s = absurd (let z : ⊥ = cc in z)

pub plain_wrong_mac : (z : Waiting) (bytes : List ℕ) (cut : ReplyCut) (a : AuthReply) (mac : List ℕ)
    → HasMac z bytes cut a mac → a.hmac ≢ mac → has_no_params z.code ≡ true → length cut.params ≡ 0
    → HasFirstFault z bytes faults.WrongMac
plain_wrong_mac z bytes cut a mac h differ is empty =
    let p = is_plain z.code bytes cut a is empty (only cut.auths a h.one.count h.one.first) h.one.spells in (
      WrongMac,
      ap (opened_response z) p.read_as
          ∙ other_mac z p.body a h.long
          (λ e. differ (e ∙ sym (h.is p.body (nil_from_length cut.params empty ∙ sym p.none)))),
      refl,
    )
