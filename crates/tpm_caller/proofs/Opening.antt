-- What a caller finds in the bytes of a reply.
use Rattle.std.proofs.Common.{◌≡◌, ◌≢◌, ◌↔◌, ℕ, Bool, List, [], ◌∷◌, length, Result, Ok, Err, Some, None, Option, true, false}
use Rattle.std.proofs.Common.{refl, sym, ap, ◌∙◌, subst, arith}
use Rattle.std.proofs.lemmas.Bool.{eq-eqb, ne_eqb}
use Rattle.std.proofs.lemmas.List.{append-nil}
use Rattle.std.proofs.lemmas.Slice.Eq.{bytes_eq-Decides}
use Rattle.std.specs.Prelude.{slice_get, bytes_eq}
use Rattle.tpm_wire.specs.declared.refusal.Refusal.{Refusal}
use Rattle.tpm_wire.specs.Buffers.{buffer}
use Rattle.tpm_wire.specs.Path.{Spells, Fault}
use Rattle.tpm_wire.specs.Reading.{read_all}
use Rattle.tpm_wire.specs.Spelling.{spelling}
use Rattle.tpm_wire.proofs.Buffers.{buffer_sound}
use Rattle.tpm_wire.proofs.Whole.{exactly_one, spells_read, fault_read}
use Rattle.tpm_types.specs.declared.alg.Alg.{Alg}
use Rattle.tpm_types.specs.declared.tpms.AuthReply.{AuthReply}
use Rattle.tpm_types.specs.declared.command_code.CommandCode.{CommandCode}
use Rattle.tpm_commands.specs.declared.command.ReplyBody.{ReplyBody}
use Rattle.tpm_commands.specs.declared.response.Response.{Response}
use Rattle.tpm_types.specs.CommandCodes.{code_number}
use Rattle.tpm_commands.specs.Handles.{needs_authorization}
use Rattle.tpm_buffer.specs.Responses.{response, done_with, ReplyCut, reply_cut}
use Rattle.tpm_buffer.proofs.Parted.{has_areas}
use Rattle.tpm_hmac.specs.Hmac.{hmac}
use Rattle.tpm_hmac.specs.Sessions.{whole_key, rp_hash, mac_text}
use Rattle.tpm_model.specs.Answers.{reply_params}
use Rattle.tpm_model.specs.InStep.{CallerSession}
use Rattle.tpm_model.specs.Callers.{Refused, Code, NotExpected, WrongMac, Waiting, Opened, awaited_text, opened_session}
use Rattle.tpm_model.specs.Callers.{opened_response, opened, caller_of_refusal, given_up}
use Rattle.tpm_model.proofs.RoundTrip.{open_is}
use Rattle.tpm_model.specs.Callers as model
use Rattle.tpm_caller.specs.declared.waiting.CallerFault.{CallerFault}
use Rattle.tpm_caller.specs.Sent.{caller_with}
use Rattle.tpm_caller.specs.Faults.{opening_of, HasFirstFault}
use Rattle.tpm_caller.proofs.ReplyParams.{params_are}
use Rattle.tpm_caller.specs.declared.waiting.CallerFault.TheVariants as faults
use Rattle.tpm_caller.specs.inner.Checking.{HasFault, IsSpelledBy, IsTold, OpensWith}

-- ---- the cut of a reply

pub some_cut : (code : CommandCode) (bytes : List ℕ) (body : ReplyBody) (auths : List AuthReply)
    → IsSpelledBy bytes code body auths → (c : ReplyCut) × Spells (reply_cut code) c bytes
some_cut code bytes body auths s = let x = has_areas code bytes (done_with (record { body = body; auths = auths })) s.spells in (x.0, x.1)

-- It has the sessions of the response.
same_auths : (code : CommandCode) (bytes : List ℕ) (body : ReplyBody) (auths : List AuthReply) (c : ReplyCut)
    → IsSpelledBy bytes code body auths → Spells (reply_cut code) c bytes → c.auths ≡ auths
same_auths code bytes body auths c s cut =
    let x = has_areas code bytes (done_with (record { body = body; auths = auths })) s.spells in
    ap (λ (z : ReplyCut). z.auths) ((exactly_one buffer buffer_sound (reply_cut code) bytes).one_value c x.0 cut x.1) ∙ x.2.auths_are

pub only : (auths : List AuthReply) (a : AuthReply) → length auths ≡ 1 → Some a ≡ slice_get auths 0 → auths ≡ a ∷ []
only [] a one is = absurd (omega (arith, one))
only (b ∷ []) a one is = let same : a ≡ b = cc in ap (λ (x : AuthReply). x ∷ []) (sym same)
only (b ∷ d ∷ others) a one is = absurd (omega (arith, one))

-- a cut with one session
pub record HasOne (w : Waiting) (bytes : List ℕ) (cut : ReplyCut) (a : AuthReply) : Type 0 where
  pub spells : Spells (reply_cut w.code) cut bytes
  pub count : length cut.auths ≡ 1
  pub first : Some a ≡ slice_get cut.auths 0

pub one_auth : (w : Waiting) (bytes : List ℕ) (cut : ReplyCut) (a : AuthReply) (body : ReplyBody)
    (auths : List AuthReply)
    → HasOne w bytes cut a → IsSpelledBy bytes w.code body auths → auths ≡ a ∷ []
one_auth w bytes cut a body auths h s =
    let same = same_auths w.code bytes body auths cut s h.spells in
    only auths a (ap length (sym same) ∙ h.count) (h.first ∙ ap (λ (l : List AuthReply). slice_get l 0) same)

pub params_of_one : (w : Waiting) (bytes : List ℕ) (cut : ReplyCut) (a : AuthReply) (body : ReplyBody)
    (auths : List AuthReply)
    → needs_authorization w.code ≡ true → HasOne w bytes cut a → IsSpelledBy bytes w.code body auths
    → cut.params ≡ reply_params body
params_of_one w bytes cut a body auths needs h s =
    let one = one_auth w bytes cut a body auths h s in
    params_are w.code bytes cut body a needs (subst (IsSpelledBy bytes w.code body) one s) h.spells (same_auths w.code bytes body auths cut s h.spells ∙ one)

-- ---- the checks

pub not_one : (w : Waiting) (body : ReplyBody) (auths : List AuthReply) → length auths ≢ 1 → opened_session w body auths ≡ Err NotExpected
not_one w body [] more = refl
not_one w body (a ∷ []) more = absurd (more refl)
not_one w body (a ∷ b ∷ others) more = refl

pub other_length : (w : Waiting) (body : ReplyBody) (a : AuthReply) → length a.nonce ≢ length w.caller.nonce → opened_session w body (a ∷ []) ≡ Err NotExpected
other_length w body a differ = rw (ne_eqb (length a.nonce) (length w.caller.nonce) differ) refl

pub other_mac : (w : Waiting) (body : ReplyBody) (a : AuthReply) → length a.nonce ≡ length w.caller.nonce
    → a.hmac ≢ hmac w.caller.hash w.key (awaited_text w body a) → opened_session w body (a ∷ []) ≡ Err WrongMac
other_mac w body a long differ = go (bytes_eq a.hmac mac) refl
  where
    mac : List ℕ
    mac = hmac w.caller.hash w.key (awaited_text w body a)

    go : (b : Bool) → bytes_eq a.hmac (hmac w.caller.hash w.key (awaited_text w body a)) ≡ b → opened_session w body (a ∷ []) ≡ Err WrongMac
    go true t = absurd (differ ((bytes_eq-Decides a.hmac (hmac w.caller.hash w.key (awaited_text w body a))).0 t))
    go false t = rw (eq-eqb (length a.nonce) (length w.caller.nonce) long, t) refl

pub mac_is : (w : Waiting) (body : ReplyBody) (a : AuthReply) (alg : Alg) (key p rp params nonce own mac : List ℕ)
    (attrs : ℕ)
    → alg ≡ w.caller.hash → key ≡ w.key → p ≡ rp → rp ≡ rp_hash alg (code_number w.code) params
    → params ≡ reply_params body → nonce ≡ a.nonce → own ≡ w.nonce → attrs ≡ a.attrs
    → mac ≡ hmac alg (whole_key key []) (mac_text p nonce own attrs)
    → mac ≡ hmac w.caller.hash w.key (awaited_text w body a)
mac_is w body a alg key p rp params nonce own mac attrs same_alg same_key same_p rp_is same_params same_nonce same_own same_attrs is =
    is
    ∙ ap (λ (l : List ℕ). hmac alg l (mac_text p nonce own attrs)) (append-nil key ∙ same_key)
    ∙ rw (same_p, rp_is, same_alg, same_params, same_nonce, same_own, same_attrs) refl

-- ---- what checking answers

pub no_cut : (bytes : List ℕ) (fault : CallerFault) (z : Waiting) → ((c : ReplyCut) → Spells (reply_cut z.code) c bytes → ⊥) → HasFault z bytes fault
no_cut bytes fault z none body auths s = let x = some_cut z.code bytes body auths s in absurd (none x.0 x.1)

pub not_one_for : (bytes : List ℕ) (z : Waiting) (cut : ReplyCut) → Spells (reply_cut z.code) cut bytes
    → length cut.auths ≢ 1 → HasFault z bytes faults.NotExpected
not_one_for bytes z cut spells more body auths s = (
  NotExpected,
  not_one z body auths (λ e. more (ap length (same_auths z.code bytes body auths cut s spells) ∙ e)),
  refl,
)

pub other_length_for : (bytes : List ℕ) (z : Waiting) (cut : ReplyCut) (a : AuthReply) → HasOne z bytes cut a
    → length a.nonce ≢ length z.caller.nonce → HasFault z bytes faults.NotExpected
other_length_for bytes z cut a h differ body auths s = (
  NotExpected,
  ap (opened_session z body) (one_auth z bytes cut a body auths h s) ∙ other_length z body a differ,
  refl,
)

-- a cut with one session, whose nonceTPM has the session's length, and the HMAC that it should have
pub record HasMac (z : Waiting) (bytes : List ℕ) (cut : ReplyCut) (a : AuthReply) (mac : List ℕ) : Type 0 where
  pub one : HasOne z bytes cut a
  pub long : length a.nonce ≡ length z.caller.nonce
  pub is : (body : ReplyBody) → cut.params ≡ reply_params body → mac ≡ hmac z.caller.hash z.key (awaited_text z body a)

pub other_mac_for : (bytes : List ℕ) (z : Waiting) (cut : ReplyCut) (a : AuthReply) (mac : List ℕ)
    → HasMac z bytes cut a mac → a.hmac ≢ mac → needs_authorization z.code ≡ true → HasFault z bytes faults.WrongMac
other_mac_for bytes z cut a mac h differ needs body auths s = (
  WrongMac,
  ap (opened_session z body) (one_auth z bytes cut a body auths h.one s)
      ∙ other_mac z body a h.long
      (λ e. differ (e ∙ sym (h.is body (params_of_one z bytes cut a body auths needs h.one s)))),
  refl,
)

pub open_for : (bytes nonce : List ℕ) (z : Waiting) (cut : ReplyCut) (a : AuthReply) (mac : List ℕ)
    → HasMac z bytes cut a mac → a.hmac ≡ mac → needs_authorization z.code ≡ true → nonce ≡ a.nonce
    → OpensWith z bytes nonce
open_for bytes nonce z cut a mac h same needs is body auths s =
    let one = one_auth z bytes cut a body auths h.one s in
    let made : List ℕ → List AuthReply → Result Opened model.CallerFault =
    λ n l. Ok (record { caller = caller_with z n; response = done_with (record { body = body; auths = l }) }) in
    ap (opened_session z body) one ∙ open_is z body a h.long (same ∙ h.is body (params_of_one z bytes cut a body auths needs h.one s))
    ∙ ap (λ (n : List ℕ). made n (a ∷ [])) (sym is) ∙ ap (made nonce) (sym one)

-- ---- what opening answers

abbrev okay : Option CallerSession × Response → Result (Option CallerSession × Response) (Waiting × CallerFault)
okay x = Ok x

abbrev wrong : Waiting × CallerFault → Result (Option CallerSession × Response) (Waiting × CallerFault)
wrong x = Err x

pub opened_is : (z : Waiting) (code : CommandCode) (bytes : List ℕ) (r : Response) → code ≡ z.code
    → Spells (response code) r bytes → opened z bytes ≡ opened_response z (Ok r)
opened_is z code bytes r same s =
    ap (opened_response z)
    (spells_read buffer buffer_sound (response z.code) bytes r
    (subst (λ (k : CommandCode). Spells (response k) r bytes) same s))

pub spelled_by : (z : Waiting) (code : CommandCode) (bytes : List ℕ) (r : Response) (body : ReplyBody)
    (auths : List AuthReply)
    → code ≡ z.code → Spells (response code) r bytes → bytes ≡ spelling (response code) r
    → r ≡ done_with (record { body = body; auths = auths }) → IsSpelledBy bytes z.code body auths
spelled_by z code bytes r body auths same s is made = record {
  spells = subst (λ (q : Response). Spells (response z.code) q bytes) made (subst (λ (k : CommandCode). Spells (response k) r bytes) same s);
  is = is ∙ ap (λ (k : CommandCode). spelling (response k) r) same ∙ ap (spelling (response z.code)) made;
}

pub open_done : (z : Waiting) (code : CommandCode) (bytes nonce : List ℕ) (r : Response) (body : ReplyBody)
    (auths : List AuthReply) (caller : Option CallerSession)
    → code ≡ z.code → Spells (response code) r bytes
    → bytes ≡ spelling (response code) r → r ≡ done_with (record { body = body; auths = auths }) → OpensWith z bytes nonce
    → caller ≡ caller_with z nonce → okay (caller, r) ≡ opening_of z (opened z bytes)
open_done z code bytes nonce r body auths caller same s is made opens kept =
    let x = spelled_by z code bytes r body auths same s is made in
    ap (λ (o : Option CallerSession). okay (o, r)) kept ∙ ap (λ (q : Response). okay (caller_with z nonce, q)) made
    ∙ sym (ap (opening_of z) (opened_is z code bytes r same s ∙ ap (λ (q : Response). opened_response z (Ok q)) made ∙ opens body auths x))

pub wrong_is : (z : Waiting) (bytes : List ℕ) (fault : CallerFault) → HasFirstFault z bytes fault → wrong (z, fault) ≡ opening_of z (opened z bytes)
wrong_is z bytes fault f = ap (λ (x : CallerFault). wrong (z, x)) f.2 ∙ sym (ap (opening_of z) f.1)

-- ---- what decoding answers

abbrev pub response_ok : Response → Result Response Refusal
response_ok r = Ok r

-- The bytes are read as what they were decoded as.
pub read_as : (code : CommandCode) (bytes : List ℕ) (o : Result Response Refusal)
    → ((r : Response) → (o ≡ Ok r) ↔ Spells (response code) r bytes)
    → ((e : Refusal) → (o ≡ Err e) ↔ Fault (response code) bytes e)
    → read_all (response code) bytes ≡ o
read_as code bytes (Ok r) ok err = spells_read buffer buffer_sound (response code) bytes r ((ok r).0 refl)
read_as code bytes (Err e) ok err = fault_read buffer buffer_sound (response code) bytes e ((err e).0 refl)

pub decoded : (z : Waiting) (code : CommandCode) (bytes : List ℕ) (o : Result Response Refusal) → code ≡ z.code
    → ((r : Response) → (o ≡ Ok r) ↔ Spells (response code) r bytes)
    → ((e : Refusal) → (o ≡ Err e) ↔ Fault (response code) bytes e)
    → read_all (response z.code) bytes ≡ o
decoded z code bytes o same ok err = ap (λ (k : CommandCode). read_all (response k) bytes) (sym same) ∙ read_as code bytes o ok err

-- ---- what is told

pub is_reply : (code : CommandCode) (bytes : List ℕ) (r : Response) (body : ReplyBody) (auths : List AuthReply)
    → Spells (response code) r bytes → bytes ≡ spelling (response code) r
    → r ≡ done_with (record { body = body; auths = auths }) → IsTold code bytes None
is_reply code bytes r body auths s is made = (
  body,
  auths,
  record {
    spells = subst (λ (q : Response). Spells (response code) q bytes) made s;
    is = is ∙ ap (spelling (response code)) made;
  },
)

-- what is told, of the code of what is waited for
pub told_of : (z : Waiting) (code : CommandCode) (bytes : List ℕ) (o given : Option CallerFault) → code ≡ z.code
    → IsTold code bytes o → o ≡ given → IsTold z.code bytes given
told_of z code bytes o given same told is =
    subst (λ (k : CommandCode). IsTold k bytes given) same (subst (IsTold code bytes) is told)

-- A reply is opened as its session is;
pub reply_opened : (z : Waiting) (bytes : List ℕ) (body : ReplyBody) (auths : List AuthReply)
    → IsSpelledBy bytes z.code body auths → opened z bytes ≡ opened_session z body auths
reply_opened z bytes body auths s =
    ap (opened_response z)
    (spells_read buffer buffer_sound (response z.code) bytes (done_with (record { body = body; auths = auths })) s.spells)

-- what is none has the fault that is told.
pub told_first : (z : Waiting) (bytes : List ℕ) (fault : CallerFault) → IsTold z.code bytes (Some fault) → HasFirstFault z bytes fault
told_first z bytes (faults.Refused refusal) told = (Refused refusal, ap (opened_response z) told, refl)
told_first z bytes (faults.Code error) told = (Code error, ap (opened_response z) told, refl)
told_first z bytes faults.NotExpected told = absurd told
told_first z bytes faults.WrongMac told = absurd told

-- The bytes are opened, and leave a caller with this nonceTPM.
abbrev pub Opens : Waiting → List ℕ → List ℕ → Type 0
Opens z bytes nonce = (x : Opened) × (opened z bytes ≡ Ok x) × (x.caller ≡ caller_with z nonce)

-- A reply is opened as its session is,
pub opens_so : (z : Waiting) (bytes nonce : List ℕ) → IsTold z.code bytes None → OpensWith z bytes nonce → Opens z bytes nonce
opens_so z bytes nonce (body, auths, s) opens = (
  record { caller = caller_with z nonce; response = done_with (record { body = body; auths = auths }) },
  reply_opened z bytes body auths s ∙ opens body auths s,
  refl,
)

-- and has the fault that its session has.
pub fails_so : (z : Waiting) (bytes : List ℕ) (fault : CallerFault) → IsTold z.code bytes None → HasFault z bytes fault → HasFirstFault z bytes fault
fails_so z bytes fault (body, auths, s) fails =
    let f = fails body auths s in
    (f.0, reply_opened z bytes body auths s ∙ f.1, f.2)

-- A reply does not say that the command was refused.
pub reply_no_refusal : (z : Waiting) (bytes : List ℕ) → IsTold z.code bytes None → given_up z bytes ≡ None
reply_no_refusal z bytes (body, auths, s) =
    ap (caller_of_refusal z)
    (spells_read buffer buffer_sound (response z.code) bytes (done_with (record { body = body; auths = auths })) s.spells)
