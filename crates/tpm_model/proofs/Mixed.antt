-- A reply of a run that a Waiting opens is the reply to its own buffer.
use Rattle.std.proofs.Common.{◌≡◌, ◌≢◌, ℕ, ◌+◌, ◌≤◌, ◌<◌, List, [], ◌∷◌, ◌++◌, length, take, Result, Ok, Err, Some}
use Rattle.std.proofs.Common.{None, Option, Bool, true, false, refl, sym, ap, ◌∙◌, subst, arith, inl, inr, length-take}
use Rattle.std.proofs.Common.{length-append, append_assoc}
use Rattle.std.proofs.lemmas.Slice.Eq.{bytes_eq-Decides}
use Rattle.std.proofs.lemmas.List.{append-nil, append_cancel_left, take_at}
use Rattle.std.specs.Prelude.{◌==◌, ◌⊎◌, if◌then◌else◌, bytes_eq}
use Rattle.std.specs.Int.{w32, to_be_bytes, bytes_high_first}
use Rattle.tpm_wire.specs.declared.refusal.Refusal.{Refusal}
use Rattle.tpm_wire.specs.Buffers.{buffer}
use Rattle.tpm_wire.specs.Token.{number_of}
use Rattle.tpm_wire.specs.Path.{Spells}
use Rattle.tpm_wire.specs.Reading.{read_all}
use Rattle.tpm_wire.specs.Spelling.{spelling}
use Rattle.tpm_wire.specs.ResponseCodes.{rc_attributes, of_session}
use Rattle.tpm_wire.specs.Structures.{sized_bytes}
use Rattle.tpm_wire.proofs.Agreement.{bind_ok}
use Rattle.tpm_wire.proofs.Buffers.{buffer_sound}
use Rattle.tpm_wire.proofs.Whole.{exactly_one}
use Rattle.tpm_types.specs.declared.tpms.Auth.{Auth}
use Rattle.tpm_types.specs.declared.tpms.AuthReply.{AuthReply}
use Rattle.tpm_types.specs.Handles.{rs_pw, is_session}
use Rattle.tpm_types.specs.Tpma.{session_attrs, audits_or_encrypts}
use Rattle.tpm_types.specs.Tpms.{auth_response}
use Rattle.tpm_types.proofs.Algs.{digest_most}
use Rattle.tpm_types.specs.declared.command_code.CommandCode.{CommandCode}
use Rattle.tpm_commands.specs.declared.command.Command.{Command}
use Rattle.tpm_commands.specs.declared.command.ReplyBody.{ReplyBody}
use Rattle.tpm_commands.specs.declared.response.Response.{Response}
use Rattle.tpm_types.specs.CommandCodes.{code_number}
use Rattle.tpm_commands.specs.Handles.{first, needs_authorization}
use Rattle.tpm_commands.specs.Replies.{code_for_reply, reply_handles, reply_handles_of}
use Rattle.tpm_commands.specs.declared.response.Response.TheVariants as responses
use Rattle.tpm_buffer.specs.Commands.{command, command_size, code_for}
use Rattle.tpm_buffer.specs.Responses.{response, response_front, response_tag, response_code, with_sessions}
use Rattle.tpm_buffer.specs.Responses.{parameter_size, reply_sessions, further_sessions, size_of_response, done_with}
use Rattle.tpm_hmac.specs.Hashes.{digest}
use Rattle.tpm_hmac.specs.Hmac.{hmac}
use Rattle.tpm_hmac.specs.Sessions.{trim, cp_hash}
use Rattle.tpm_hmac.proofs.DigestLengths.{length-digest, length-hmac}
use Rattle.tpm_model.specs.Steps.{History, PowerCycle, Origin}
use Rattle.tpm_model.specs.Sessions.{Session, loaded, sessions_at}
use Rattle.tpm_model.specs.Present.{present}
use Rattle.tpm_model.specs.Entities.{Entity, entity_of, names_of, auth_value}
use Rattle.tpm_model.specs.Authorization.{refuse, is_empty, Authorizer, Password, BySession, by_session, check_loaded}
use Rattle.tpm_model.specs.Authorization.{check_session, check_no_trial, check_no_nonce, check_entity, evidence_by}
use Rattle.tpm_model.specs.Authorization.{evidence_of, check_evidence, first_loaded, failure, Signed, command_text}
use Rattle.tpm_model.specs.Authorization.{needs_none, is_signed, key_for, Evidence, NotAsked, ByPassword, ByMac}
use Rattle.tpm_model.specs.Authorization.{nonce_next, reply_mac, reply_auths, password_reply}
use Rattle.tpm_model.specs.Answers.{presented, Done, outcome, answered, answer, next, reply_params}
use Rattle.tpm_model.specs.Callers.{Seal, seal_key, seal_text, seal_auth, sealed_command, Waiting, waiting, CallerFault}
use Rattle.tpm_model.specs.Callers.{NotExpected, WrongMac, Opened, awaited_text, has_mac, unless, opened_session}
use Rattle.tpm_model.specs.Callers.{opened_response, opened}
use Rattle.tpm_model.specs.Runs.Stimulus.{Given, Cycled}
use Rattle.tpm_model.specs.Runs.{Stimulus, after}
use Rattle.tpm_model.specs.Premises.{IsAccepted, HasSessionMac, NoncesDiffer, most_nonce, Keyed, mac_of}
use Rattle.tpm_hmac.specs.Among.{IsAmong}
use Rattle.tpm_model.specs.Premises.{texts_checked, AreFree, IsSealedBy, AreSealed, IsOther, SealsDiffer}
use Rattle.tpm_model.specs.Premises.{keyed_reply, text_by, text_replied, texts_replied, Opening, keyed_awaited}
use Rattle.tpm_model.specs.Premises.{text_awaited, text_opened, texts_opened, IsOfCallers}
use Rattle.tpm_model.proofs.Accepted.{Passed, passed, ok_is}
use Rattle.tpm_model.proofs.Spelled.{was_read, spelled_by}
use Rattle.tpm_model.proofs.Slots.{held}
use Rattle.tpm_hmac.proofs.Among.{among_front, among_later}
use Rattle.tpm_model.proofs.Nonces.{has_length}
use Rattle.tpm_model.proofs.Replay.{refused_not, cut_front, twice_as}
use Rattle.tpm_model.proofs.Sealing.{loaded_handle, hmac_some}
use Rattle.tpm_model.proofs.Replies.{own_reply}
use Rattle.tpm_model.proofs.RoundTrip.{refused_read}
use Rattle.tpm_model.proofs.ReplySessions.{session_list, Lists, listed, none_listed}
use Rattle.tpm_model.proofs.OwnCode.{by_session_needs}
use Rattle.tpm_model.proofs.ReplyBytes.{session_text, reply_bytes, head_is, one_session}

-- ---- what was opened

abbrev pub done_body : ReplyBody → List AuthReply → Response
done_body body auths = done_with (record { body = body; auths = auths })

abbrev read_ok : Response → Result Response Refusal
read_ok r = Ok r

pub record WasOpened (w : Waiting) (r : Result Response Refusal) : Type 0 where
  pub body : ReplyBody
  pub auth : AuthReply
  pub is : r ≡ Ok (done_body body (auth ∷ []))
  pub mac : auth.hmac ≡ mac_of (keyed_awaited w body auth)
  pub text : text_opened w r ≡ keyed_awaited w body auth ∷ []

holds : (b : Bool) (fault : CallerFault) (u : Unit {0}) → unless b fault ≡ Ok u → b ≡ true
holds true fault u e = refl
holds false fault u e = absurd (let z : ⊥ = cc in z)

session_opened : (w : Waiting) (body : ReplyBody) (auths : List AuthReply) (x : Opened) → opened_session w body auths ≡ Ok x
    → (a : AuthReply) × (auths ≡ a ∷ []) × (a.hmac ≡ mac_of (keyed_awaited w body a)) × (text_awaited w body (a ∷ []) ≡ keyed_awaited w body a ∷ [])
session_opened w body (a ∷ []) x e =
    let b = bind_ok (unless (length a.nonce == length w.caller.nonce) NotExpected) _ x e in
    let c = bind_ok (unless (has_mac w body a) WrongMac) _ x b.2 in
    let long = holds (length a.nonce == length w.caller.nonce) NotExpected b.0 b.1 in (
      a,
      refl,
      (bytes_eq-Decides a.hmac (mac_of (keyed_awaited w body a))).0 (holds (has_mac w body a) WrongMac c.0 c.1),
      ap (λ t. if t then keyed_awaited w body a ∷ [] else []) long,
    )
session_opened w body _ x e = absurd (let z : ⊥ = cc in z)

was_opened : (w : Waiting) (r : Result Response Refusal) (x : Opened) → opened_response w r ≡ Ok x → WasOpened w r
was_opened w (Ok (responses.Done body auths)) x is =
    let s = session_opened w body auths.items x is in
    record {
      body = body;
      auth = s.0;
      is = ap (λ (items : List AuthReply). read_ok (done_body body items)) s.1;
      mac = s.2;
      text = ap (text_awaited w body) s.1 ∙ s.3;
    }
was_opened w _ x is = absurd (let z : ⊥ = cc in z)

-- ---- how a command was authorized

loaded_by : (is_word : Bool) (s : Option Session) (by : Authorizer) → (if is_word then Ok Password else by_session s) ≡ Ok by
    → (by ≡ Password) ⊎ ((y : Session) × (s ≡ Some y) × (by ≡ BySession y))
loaded_by true s by e = inl (sym (ok_is Password by e))
loaded_by false None by e = absurd (let z : ⊥ = cc in z)
loaded_by false (Some y) by e = inr (y, refl, sym (ok_is (BySession y) by e))

no_others : (others : List Auth) → is_empty others ≡ true → others ≡ []
no_others [] e = refl
no_others (a ∷ others) e = absurd (let z : ⊥ = cc in z)

one_auth : (by : Authorizer) (a : Auth) (others : List Auth) (u : Unit {0}) → check_session by a others ≡ Ok u → others ≡ []
one_auth by a others u e =
    let b = bind_ok (refuse (audits_or_encrypts a.attrs) (rc_attributes + of_session 1)) _ u e in
    let c = bind_ok (check_no_trial by) _ u b.2 in
    let d = bind_ok (check_no_nonce by a.nonce) _ u c.2 in
    no_others others (refused_not (is_empty others) (rc_attributes + of_session 2) d.2)

-- none, a password, or a session
abbrev Shape : Option Session → List Auth → Evidence → Type 0
Shape s auths evidence = (evidence ≡ NotAsked)
    ⊎ (((a : Auth) × (wanted : List ℕ) × (auths ≡ a ∷ []) × (evidence ≡ ByPassword (trim a.hmac) wanted))
    ⊎ ((x : Signed) × (auths ≡ x.auth ∷ []) × (s ≡ Some x.session) × (evidence ≡ ByMac x)))

shape : (s : Option Session) (e : Entity) (code : CommandCode) (names : List (List ℕ)) (params : List ℕ) (update_counter : ℕ) (auths : List Auth)
    (evidence : Evidence)
    → evidence_of s e code names params update_counter auths ≡ Ok evidence → Shape s auths evidence
shape s e code names params update_counter [] evidence is = inl (sym (ok_is NotAsked evidence is))
shape s e code names params update_counter (a ∷ others) evidence is =
    let b = bind_ok (check_loaded a.session s) _ evidence is in
    let c = bind_ok (check_session b.0 a others) _ evidence b.2 in
    let d = bind_ok (check_entity b.0 e code update_counter) _ evidence c.2 in
    let one : a ∷ others ≡ a ∷ [] = ap (λ (l : List Auth). a ∷ l) (one_auth b.0 a others c.0 c.1) in
    let made : evidence ≡ evidence_by b.0 e code names params a = sym (ok_is (evidence_by b.0 e code names params a) evidence d.2) in
    elim (loaded_by (a.session == rs_pw) s b.0 b.1) [
      | inl word ↦ inr (inl (a, auth_value e, one, made ∙ ap (λ z. evidence_by z e code names params a) word))
      | inr q ↦ inr
          (inr (
            record { session = q.0; key = key_for q.0 e; p_hash = cp_hash q.0.hash (code_number code) names params; auth = a },
            one,
            q.1,
            made ∙ ap (λ z. evidence_by z e code names params a) q.2,
          ))
    ]

-- ---- the bytes of a reply with one session

session_is : (a : AuthReply) → spelling auth_response a ≡ session_text a.nonce a.attrs a.hmac []
unfolding auth_response session_attrs sized_bytes
session_is a = simp (append_assoc, append-nil)

tail_is : (handles size params s : List ℕ) → handles ≡ [] → (handles ++ (size ++ (params ++ ((s ++ []) ++ [])))) ++ [] ≡ size ++ (params ++ s)
tail_is handles size params s none = rw none (simp append-nil)

pub one_reply : (r : ReplyBody) (a : AuthReply) → spelling (reply_handles (code_for_reply r)) (reply_handles_of r) ≡ []
    → spelling (response (code_for_reply r)) (done_body r (a ∷ []))
    ≡ reply_bytes (size_of_response (code_for_reply r) (done_body r (a ∷ []))) (reply_params r) a.nonce a.attrs a.hmac []
unfolding response response_front response_tag command_size response_code with_sessions parameter_size reply_sessions further_sessions
one_reply r a none =
    let size = size_of_response (code_for_reply r) (done_body r (a ∷ [])) in
    let params = reply_params r in
    let four = bytes_high_first 4 (length params) in
    ap (λ (t : List ℕ). bytes_high_first 2 0x8002 ++ (bytes_high_first 4 size ++ (bytes_high_first 4 0 ++ t)))
    (tail_is (spelling (reply_handles (code_for_reply r)) (reply_handles_of r)) four params (spelling auth_response a) none
    ∙ ap (λ (t : List ℕ). four ++ (params ++ t)) (session_is a))

no_reply_tag : (c : CommandCode) (r : ReplyBody) → number_of (take 2 (spelling (response c) (done_body r []))) ≡ 0x8001
unfolding response response_front response_tag
no_reply_tag c r = refl

-- ---- lists

pub among_reply : (o : Origin) (h : History) (es fs : List Stimulus) (bytes n : List ℕ) (x : Keyed)
    → text_replied (presented (present o (after o h es)) bytes) (outcome (present o (after o h es)) bytes n) n ≡ x ∷ []
    → IsAmong x (texts_replied o h (es ++ Given bytes n ∷ fs))
among_reply o h [] fs bytes n x e = subst (λ xs. IsAmong x (xs ++ texts_replied o (next o h bytes n) fs)) (sym e) (inl refl)
among_reply o h (Given b m ∷ es) fs bytes n x e =
    among_later x (text_replied (presented (present o h) b) (outcome (present o h) b m) m) (texts_replied o (next o h b m) (es ++ Given bytes n ∷ fs))
    (among_reply o (next o h b m) es fs bytes n x e)
among_reply o h (Cycled ∷ es) fs bytes n x e = among_reply o (PowerCycle ∷ h) es fs bytes n x e

abbrev text_at : Opening → List Keyed
text_at x = text_opened (waiting x.seal) (read_all (response (code_for x.seal.body)) x.bytes)

among_opened : (x : Opening) (xs : List Opening) (k : Keyed) → IsAmong x xs → text_at x ≡ k ∷ [] → IsAmong k (texts_opened xs)
among_opened x [] k i e = absurd i
among_opened x (y ∷ xs) k (inl same) e = subst (λ t. IsAmong k (t ++ texts_opened xs)) (sym (sym (ap text_at same) ∙ e)) (inl refl)
among_opened x (y ∷ xs) k (inr i) e = among_later k (text_at y) (texts_opened xs) (among_opened x xs k i e)

sealed_here : (o : Origin) (seals : List Seal) (h : History) (es fs : List Stimulus) (bytes n : List ℕ) → AreSealed o seals h (es ++ Given bytes n ∷ fs)
    → IsAccepted o (after o h es) bytes n → HasSessionMac bytes → IsSealedBy seals bytes
sealed_here o seals h [] fs bytes n all = all.0
sealed_here o seals h (Given b m ∷ es) fs bytes n all = sealed_here o seals (next o h b m) es fs bytes n all.1
sealed_here o seals h (Cycled ∷ es) fs bytes n all = sealed_here o seals (PowerCycle ∷ h) es fs bytes n all

other_from : (nonce : List ℕ) (seals : List Seal) (s : Seal) → IsOther nonce seals → IsAmong s seals → nonce ≢ s.nonce
other_from nonce [] s other i = absurd i
other_from nonce (x ∷ seals) s other (inl e) = λ same. other.0 (same ∙ ap (λ (z : Seal). z.nonce) e)
other_from nonce (x ∷ seals) s other (inr i) = other_from nonce seals s other.1 i

-- One nonce is given once.
same_seal : (seals : List Seal) (s t : Seal) → SealsDiffer seals → IsAmong s seals → IsAmong t seals → s.nonce ≡ t.nonce → s ≡ t
same_seal [] s t differ i j e = absurd i
same_seal (x ∷ seals) s t differ (inl a) (inl b) e = a ∙ sym b
same_seal (x ∷ seals) s t differ (inl a) (inr j) e = absurd (other_from x.nonce seals t differ.0 j (sym (ap (λ (z : Seal). z.nonce) a) ∙ e))
same_seal (x ∷ seals) s t differ (inr i) (inl b) e = absurd (other_from x.nonce seals s differ.0 i (sym (ap (λ (z : Seal). z.nonce) b) ∙ sym e))
same_seal (x ∷ seals) s t differ (inr i) (inr j) e = same_seal seals s t differ.1 i j e

-- ---- cutting texts

last_cut : (u v : List ℕ) (f g : ℕ) → u ++ f ∷ [] ≡ v ++ g ∷ [] → u ≡ v
last_cut u v f g e =
    let long : length v ≡ length u = omega (arith, ap length e, length-append u (f ∷ []), length-append v (g ∷ [])) in
    sym (take_at u (f ∷ []) (length u) refl) ∙ ap (take (length u)) e ∙ take_at v (g ∷ []) (length u) long

-- Equal MACs of replies with one nonceTPM have one nonceCaller.
one_caller : (a b : Keyed) (p q newer other u v : List ℕ) (f g : ℕ) → mac_of a ≡ mac_of b → a.text ≡ b.text
    → a.text ≡ digest a.hash p ++ (newer ++ (u ++ f ∷ [])) → b.text ≡ digest b.hash q ++ (other ++ (v ++ g ∷ []))
    → newer ≡ other → u ≡ v
one_caller a b p q newer other u v f g mac text left right same =
    let lengths =
    length-digest a.hash p ∙ sym (length-hmac a.hash a.key a.text) ∙ ap length mac ∙ length-hmac b.hash b.key b.text ∙ sym (length-digest b.hash q) in
    let cut = cut_front (digest a.hash p) (digest b.hash q) (newer ++ (u ++ f ∷ [])) (other ++ (v ++ g ∷ [])) lengths (sym left ∙ text ∙ right) in
    last_cut u v f g (append_cancel_left newer (u ++ f ∷ []) (v ++ g ∷ []) (cut ∙ ap (λ (m : List ℕ). m ++ (v ++ g ∷ [])) (sym same)))

-- ---- the whole

-- a Waiting that opened the reply of an accepted step
record OpenedStep (o : Origin) (h : History) (bytes n : List ℕ) (s : Seal) (d : Done) : Type 0 where
  is : outcome (present o h) bytes n ≡ Ok d
  needs : needs_authorization (code_for s.body) ≡ true
  opening : WasOpened (waiting s) (read_all (response (code_for s.body)) (answer o h bytes n))

-- its session as it was read, from bytes with these sessions
step_lists : (o : Origin) (h : History) (bytes n : List ℕ) (s : Seal) (d : Done) (t : OpenedStep o h bytes n s d) (auths : List AuthReply)
    → d.reply.auths ≡ auths
    → Lists (session_list (spelling (response (code_for d.command.body)) (done_body d.reply.body auths))) (t.opening.auth ∷ [])
step_lists o h bytes n s d t auths is =
    let code = code_for s.body in
    let same : answer o h bytes n ≡ spelling (response (code_for d.command.body)) (done_body d.reply.body auths) =
    ap answered t.is ∙ ap (λ (l : List AuthReply). spelling (response (code_for d.command.body)) (done_body d.reply.body l)) is in
    listed code (spelling (response (code_for d.command.body)) (done_body d.reply.body auths)) t.opening.body (t.opening.auth ∷ []) t.needs
    (ap (read_all (response code)) (sym same) ∙ t.opening.is)

open_some : (w : Waiting) (r : Result Response Refusal) (t : WasOpened w r) → 0 < length t.auth.hmac
open_some w r t = subst (λ (m : List ℕ). 0 < length m) (sym t.mac) (hmac_some w.caller.hash w.key (awaited_text w t.body t.auth))

never_none : (o : Origin) (h : History) (bytes n : List ℕ) (s : Seal) (d : Done) → OpenedStep o h bytes n s d → d.reply.auths ≡ [] → ⊥
never_none o h bytes n s d t none =
    let b = spelling (response (code_for d.command.body)) (done_body d.reply.body []) in
    let nil = none_listed b (t.opening.auth ∷ []) (no_reply_tag (code_for d.command.body) d.reply.body) (step_lists o h bytes n s d t [] none) in
    let z : ⊥ = cc in z

-- The nonce and the HMAC that were read are those of the reply.
step_read : (o : Origin) (h : History) (bytes n : List ℕ) (s : Seal) (d : Done) (t : OpenedStep o h bytes n s d) (done : Passed (present o h) bytes n d)
    (auth : Auth)
    (a : AuthReply)
    → done.x.auths ≡ auth ∷ [] → d.reply.auths ≡ a ∷ [] → length a.nonce ≤ most_nonce → length a.hmac ≤ most_nonce
    → (t.opening.auth.nonce ≡ a.nonce) × (t.opening.auth.hmac ≡ a.hmac)
step_read o h bytes n s d t done auth a one is few_nonce few_hmac =
    let needs = by_session_needs (present o h) bytes n d done auth one in
    let own = own_reply (present o h) d.command.body n d.reply.body needs done.act in
    let r = d.reply.body in
    let same : spelling (response (code_for d.command.body)) (done_body r (a ∷ []))
    ≡ reply_bytes (size_of_response (code_for_reply r) (done_body r (a ∷ []))) (reply_params r) a.nonce a.attrs a.hmac [] =
    ap (λ c. spelling (response c) (done_body r (a ∷ []))) own.code ∙ one_reply r a own.none in
    one_session (size_of_response (code_for_reply r) (done_body r (a ∷ []))) (reply_params r) a.nonce a.attrs a.hmac [] t.opening.auth own.short few_nonce
    few_hmac
    (subst (λ (b : List ℕ). Lists (session_list b) (t.opening.auth ∷ [])) same (step_lists o h bytes n s d t (a ∷ []) is))

never_word : (o : Origin) (h : History) (bytes n : List ℕ) (s : Seal) (d : Done) (t : OpenedStep o h bytes n s d) (done : Passed (present o h) bytes n d)
    (auth : Auth) (a : AuthReply)
    → done.x.auths ≡ auth ∷ [] → d.reply.auths ≡ a ∷ [] → length a.nonce ≤ most_nonce → a.hmac ≡ [] → ⊥
never_word o h bytes n s d t done auth a one is few none =
    let r = step_read o h bytes n s d t done auth a one is few (omega (arith, ap length none)) in
    let z : ⊥ =
    absurd (omega (arith, open_some (waiting s) (read_all (response (code_for s.body)) (answer o h bytes n)) t.opening, ap length r.1, ap length none)) in
    z

-- The HMAC of a command that passed is there.
mac_there : (e : Entity) (y : Signed) → check_evidence e (ByMac y) ≡ Ok tt → needs_none y ≡ false → 0 < length y.auth.hmac
mac_there e y c signs =
    let mac = hmac y.session.hash y.key (command_text y) in
    let same : bytes_eq y.auth.hmac mac ≡ true = ap (λ b. if b then true else bytes_eq y.auth.hmac mac) (sym signs) ∙ refused_not (is_signed y) (failure e) c in
    subst (λ (m : List ℕ). 0 < length m) (sym ((bytes_eq-Decides y.auth.hmac mac).0 same)) (hmac_some y.session.hash y.key (command_text y))

-- a buffer of a run, beside all texts that are checked, and those of all replies: of this run alone, or of others too
module _ (o : Origin) (seals : List Seal) (xs : List Opening) (checked replied : List Keyed) (es : List Stimulus) (bytes n : List ℕ) (s : Seal) where
  abbrev pub before : History
  before = after o [] es

  -- The buffer is that of the command, which is one of a session.
  abbrev Own : Type 0
  Own = Spells command (sealed_command s) bytes × (is_session s.caller.handle ≡ true)

  -- the premises on it
  pub record OfCallers : Type 0 where
    pub sealed : IsAccepted o before bytes n → HasSessionMac bytes → IsSealedBy seals bytes
    pub differ : SealsDiffer seals
    pub free : AreFree (checked ++ (replied ++ texts_opened xs))
    pub given : IsAmong s seals
    pub answers : (k : Keyed) → text_replied (presented (present o before) bytes) (outcome (present o before) bytes n) n ≡ k ∷ [] → IsAmong k replied
    pub tried : IsAmong (record { seal = s; bytes = answer o before bytes n }) xs

  by_mac : (d : Done) (g : OfCallers) (t : OpenedStep o before bytes n s d) (done : Passed (present o before) bytes n d) (y : Signed)
      → done.x.auths ≡ y.auth ∷ [] → done.x.evidence ≡ ByMac y
      → loaded (sessions_at o before) y.auth.session ≡ Some y.session → length (nonce_next y.session n) ≤ most_nonce → needs_none y ≡ false → Own
  by_mac d g t done y one evidence is few signs =
      let p = present o before in
      let x = done.x in
      let w = waiting s in
      let params = reply_params d.reply.body in
      let a : AuthReply = record { nonce = nonce_next y.session n; attrs = y.auth.attrs; hmac = reply_mac y x.code params n } in
      let reply : d.reply.auths ≡ a ∷ [] = done.replied ∙ ap (λ z. reply_auths z x.code params n) evidence
      ∙ ap
      (λ b.
      let c : AuthReply = record { nonce = nonce_next y.session n; attrs = y.auth.attrs; hmac = if b then [] else reply_mac y x.code params n } in
      c ∷ [])
      signs in
      let k = keyed_reply y x.code params n in
      let q = keyed_awaited w t.opening.body t.opening.auth in
      let short : length a.hmac ≤ most_nonce = omega (arith, length-hmac y.session.hash y.key k.text, digest_most y.session.hash) in
      let read_it = step_read o before bytes n s d t done y.auth a one reply few short in
      let text : text_replied (presented p bytes) (outcome p bytes n) n ≡ k ∷ [] =
      ap (λ z. text_replied z (outcome p bytes n) n) done.asked ∙ ap (λ z. text_replied (Ok x) z n) t.is ∙ ap (λ z. text_by z x.code params n) evidence
      ∙ ap (λ b. if b then [] else k ∷ []) signs in
      let among_k = among_later k checked (replied ++ texts_opened xs) (among_front k replied (texts_opened xs) (g.answers k text)) in
      let among_q =
      among_later q checked (replied ++ texts_opened xs)
      (among_later q replied (texts_opened xs) (among_opened (record { seal = s; bytes = answer o before bytes n }) xs q g.tried t.opening.text)) in
      let macs : mac_of q ≡ mac_of k = sym t.opening.mac ∙ read_it.1 in
      let texts = g.free q k among_q among_k macs in
      let nonce : s.nonce ≡ y.auth.nonce =
      one_caller q k (to_be_bytes w32 0 ++ (to_be_bytes w32 (code_number w.code) ++ reply_params t.opening.body))
      (to_be_bytes w32 0 ++ (to_be_bytes w32 (code_number x.code) ++ params))
      t.opening.auth.nonce (nonce_next y.session n) s.nonce y.auth.nonce t.opening.auth.attrs y.auth.attrs macs texts refl refl read_it.0 in
      let there = mac_there x.entity y (ap (check_evidence x.entity) (sym evidence) ∙ done.evidence) signs in
      let spelled = spelled_by p bytes n d done in
      let seal = g.sealed (d, t.is) (d.command, y.auth, spelled, done.auths ∙ one, loaded_handle p.sessions y.auth.session y.session is, there) in
      let same : d.command ≡ sealed_command seal.0 =
      (exactly_one buffer buffer_sound command bytes).one_value d.command (sealed_command seal.0) spelled seal.2 in
      let auth : y.auth ≡ seal_auth seal.0 = head_is y.auth (seal_auth seal.0) [] (sym (done.auths ∙ one) ∙ ap (λ (c : Command). c.auths.items) same) in
      let its = same_seal seals s seal.0 g.differ g.given seal.1 (nonce ∙ ap (λ (b : Auth). b.nonce) auth) in
      let session = loaded_handle p.sessions y.auth.session y.session is in (
        subst (λ (z : Seal). Spells command (sealed_command z) bytes) (sym its) seal.2,
        subst (λ (z : Seal). is_session z.caller.handle ≡ true) (sym its) (ap (λ (b : Auth). is_session b.session) (sym auth) ∙ session),
      )

  by_signed : (d : Done) (g : OfCallers) (t : OpenedStep o before bytes n s d) (done : Passed (present o before) bytes n d) (y : Signed)
      → done.x.auths ≡ y.auth ∷ []
      → done.x.evidence ≡ ByMac y
      → loaded (sessions_at o before) y.auth.session ≡ Some y.session → Own
  by_signed d g t done y one evidence is =
      let x = done.x in
      let params = reply_params d.reply.body in
      let session = held o before y.auth.session y.session is in
      let few : length (nonce_next y.session n) ≤ most_nonce =
      omega (
        arith,
        length-take y.session.nonce_length n,
        ap (λ (z : Session). z.nonce_length) session.is,
        (has_length o es y.auth.session y.session session).1,
      )
      in
      elim (needs_none y) as (λ b. needs_none y ≡ b → Own) [
        | true ↦ λ none. absurd (never_word o before bytes n s d t done y.auth (record { nonce = nonce_next y.session n; attrs = y.auth.attrs; hmac = [] }) one
            (done.replied ∙ ap (λ z. reply_auths z x.code params n) evidence
            ∙ ap (λ b.
            let c : AuthReply = record { nonce = nonce_next y.session n; attrs = y.auth.attrs; hmac = if b then [] else reply_mac y x.code params n } in
            c ∷ []) none)
            few refl)
        | false ↦ λ signs. by_mac d g t done y one evidence is few signs
      ] refl

  own_step : (d : Done) → OfCallers → OpenedStep o before bytes n s d → Own
  own_step d g t =
      let p = present o before in
      let done = passed p bytes n d t.is in
      let x = done.x in
      let params = reply_params d.reply.body in
      let r = was_read p bytes x done.asked in
      elim
      (shape (first_loaded (loaded p.sessions) x.auths) (entity_of p (first x.handles)) x.code (names_of p x.handles) x.params p.registers.update_counter
      x.auths x.evidence r.evidence) [
        | inl none ↦ absurd (never_none o before bytes n s d t (done.replied ∙ ap (λ z. reply_auths z x.code params n) none))
        | inr (inl (auth, wanted, one, evidence)) ↦ absurd
            (never_word o before bytes n s d t done auth password_reply one
            (done.replied ∙ ap (λ z. reply_auths z x.code params n) evidence) (omega arith) refl)
        | inr (inr (y, one, is, evidence)) ↦ by_signed d g t done y one evidence (ap (first_loaded (loaded p.sessions)) (sym one) ∙ is)
      ]

  -- A reply that is opened was that of an accepted buffer, its own.
  pub own : OfCallers → needs_authorization (code_for s.body) ≡ true → (w : Opened) → opened (waiting s) (answer o before bytes n) ≡ Ok w
      → IsAccepted o before bytes n × Own
  own g needs w is =
      let r = read_all (response (code_for s.body)) (answer o before bytes n) in
      let t = was_opened (waiting s) r w is in
      elim (outcome (present o before) bytes n) as (λ z. outcome (present o before) bytes n ≡ z → IsAccepted o before bytes n × Own) [
        | Ok d ↦ λ e. ((d, e), own_step d g (record { is = e; needs = needs; opening = t }))
        | Err code ↦
            λ e.
            absurd (let both : read_ok (responses.Code code) ≡ Ok (done_body t.body (t.auth ∷ [])) =
            sym (refused_read o before (code_for s.body) bytes n code e) ∙ t.is in
            let z : ⊥ = cc in z)
      ] refl

-- ---- the laws

pub fewer : (checked others : List Keyed) → AreFree (checked ++ others) → AreFree checked
fewer checked others free x y i j = free x y (among_front x checked others i) (among_front y checked others j)

own_in_run : (o : Origin) (seals : List Seal) (xs : List Opening) (es fs : List Stimulus) (bytes n : List ℕ) (s : Seal) (w : Opened)
    → IsOfCallers o seals xs (es ++ Given bytes n ∷ fs) → IsAmong s seals → needs_authorization (code_for s.body) ≡ true
    → IsAmong (record { seal = s; bytes = answer o (after o [] es) bytes n }) xs → opened (waiting s) (answer o (after o [] es) bytes n) ≡ Ok w
    → IsAccepted o (after o [] es) bytes n × Spells command (sealed_command s) bytes × (is_session s.caller.handle ≡ true)
own_in_run o seals xs es fs bytes n s w run given needs tried is =
    let all = es ++ Given bytes n ∷ fs in
    let r = own o seals xs (texts_checked o [] all) (texts_replied o [] all) es bytes n s (record {
      sealed = sealed_here o seals [] es fs bytes n run.sealed;
      differ = run.differ;
      free = run.no_collision;
      given = given;
      answers = among_reply o [] es fs bytes n;
      tried = tried;
    }) needs w is in
    (r.0, r.1.0, r.1.1)

pub own_reply_alone : (o : Origin) (seals : List Seal) (xs : List Opening) (es fs : List Stimulus) (bytes n : List ℕ) (s : Seal) (w : Opened)
    → IsOfCallers o seals xs (es ++ Given bytes n ∷ fs) → IsAmong s seals → needs_authorization (code_for s.body) ≡ true
    → IsAmong (record { seal = s; bytes = answer o (after o [] es) bytes n }) xs → opened (waiting s) (answer o (after o [] es) bytes n) ≡ Ok w
    → IsAccepted o (after o [] es) bytes n × Spells command (sealed_command s) bytes
own_reply_alone o seals xs es fs bytes n s w run given needs tried is =
    let r = own_in_run o seals xs es fs bytes n s w run given needs tried is in (r.0, r.1)

pub one_reply_alone : (o : Origin) (seals : List Seal) (xs : List Opening) (es fs gs : List Stimulus) (bytes other n m : List ℕ) (s : Seal) (w v : Opened)
    → NoncesDiffer (es ++ Given bytes n ∷ fs ++ Given other m ∷ gs) → IsOfCallers o seals xs (es ++ Given bytes n ∷ fs ++ Given other m ∷ gs) → IsAmong s seals
    → needs_authorization (code_for s.body) ≡ true
    → IsAmong (record { seal = s; bytes = answer o (after o [] es) bytes n }) xs
    → IsAmong (record { seal = s; bytes = answer o (after o [] (es ++ Given bytes n ∷ fs)) other m }) xs
    → opened (waiting s) (answer o (after o [] es) bytes n) ≡ Ok w → opened (waiting s) (answer o (after o [] (es ++ Given bytes n ∷ fs)) other m) ≡ Ok v → ⊥
one_reply_alone o seals xs es fs gs bytes other n m s w v nonces run given needs tried also is both =
    let all = es ++ Given bytes n ∷ fs ++ Given other m ∷ gs in
    let first_run = subst (IsOfCallers o seals xs) (append_assoc es (Given bytes n ∷ fs) (Given other m ∷ gs)) run in
    let a = own_in_run o seals xs es (fs ++ Given other m ∷ gs) bytes n s w first_run given needs tried is in
    let b = own_in_run o seals xs (es ++ Given bytes n ∷ fs) gs other m s v run given needs also both in
    twice_as o es fs gs bytes other n m (sealed_command s) (seal_auth s) nonces
    (fewer (texts_checked o [] all) (texts_replied o [] all ++ texts_opened xs) run.no_collision)
    a.1 b.1 refl a.2
    (hmac_some s.caller.hash (seal_key s) (seal_text s)) a.0 b.0
