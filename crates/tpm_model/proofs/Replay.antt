-- A sealed buffer that is accepted twice has one text, and so one nonce.
use Rattle.std.proofs.Common.{◌≡◌, ◌≢◌, ℕ, ◌<◌, ◌≤◌, List, [], ◌∷◌, ◌++◌, length, take, drop, Ok, Some, None, Option}
use Rattle.std.proofs.Common.{Bool, true, false, not, ◌&&◌, ◌||◌, refl, sym, ap, ◌∙◌, subst, arith, inl, inr}
use Rattle.std.proofs.Common.{append_assoc}
use Rattle.std.proofs.lemmas.List.{drop_at, append_cancel_left, append_cancel_right, take-take}
use Rattle.std.proofs.lemmas.Bool.Decides.{nat_tests}
use Rattle.std.proofs.lemmas.Slice.Eq.{bytes_eq-Decides}
use Rattle.std.specs.Prelude.{◌==◌, if◌then◌else◌, bytes_eq}
use Rattle.std.specs.List.{flat_map}
use Rattle.std.specs.Int.{w32, to_be_bytes}
use Rattle.tpm_wire.specs.Buffers.{buffer}
use Rattle.tpm_wire.specs.Path.{Spells}
use Rattle.tpm_wire.proofs.Agreement.{bind_ok}
use Rattle.tpm_wire.proofs.Buffers.{buffer_sound}
use Rattle.tpm_wire.proofs.Whole.{exactly_one}
use Rattle.tpm_types.specs.declared.tpms.Auth.{Auth}
use Rattle.tpm_types.specs.Handles.{rs_pw, is_session}
use Rattle.tpm_types.specs.declared.command_code.CommandCode.{CommandCode}
use Rattle.tpm_commands.specs.declared.command.Command.{Command}
use Rattle.tpm_types.specs.CommandCodes.{code_number}
use Rattle.tpm_commands.specs.Handles.{first}
use Rattle.tpm_buffer.specs.Commands.{command}
use Rattle.tpm_hmac.specs.Hashes.{digest}
use Rattle.tpm_hmac.specs.Hmac.{hmac}
use Rattle.tpm_hmac.specs.Sessions.{cp_hash, mac_text}
use Rattle.tpm_hmac.proofs.DigestLengths.{length-digest, length-hmac}
use Rattle.tpm_model.specs.Steps.{History, Accepted, PowerCycle, Origin}
use Rattle.tpm_model.specs.Sessions.{Session, slot_of, loaded, lives, last_nonce, begins, authorizes}
use Rattle.tpm_model.specs.Present.{Present, present}
use Rattle.tpm_model.specs.Entities.{Entity, entity_of, names_of}
use Rattle.tpm_model.specs.Authorization.{refuse, is_empty, Password, BySession, by_session, check_loaded}
use Rattle.tpm_model.specs.Authorization.{check_session, check_entity, evidence_by, evidence_of, check_evidence}
use Rattle.tpm_model.specs.Authorization.{first_loaded, failure, Signed, command_text, needs_none, is_signed, key_for}
use Rattle.tpm_model.specs.Authorization.{Evidence, ByMac}
use Rattle.tpm_model.specs.Answers.{Presented, presented, Done, outcome, next}
use Rattle.tpm_model.specs.Runs.Stimulus.{Given, Cycled}
use Rattle.tpm_model.specs.Runs.{Stimulus, after}
use Rattle.tpm_model.specs.Premises.{IsAccepted, HasSessionMac, nonces, AreApart, NoncesDiffer, least_nonce}
use Rattle.tpm_hmac.specs.Among.{IsAmong}
use Rattle.tpm_model.specs.Premises.{Keyed, keyed, mac_of, text_in, text_checked, texts_checked, NoCollision}
use Rattle.tpm_model.proofs.Accepted.{Passed, passed, ok_is, next_is}
use Rattle.tpm_model.proofs.Runs.{after-append}
use Rattle.tpm_model.proofs.Spelled.{was_read, spelled_by}
use Rattle.tpm_model.proofs.Slots.{held}
use Rattle.tpm_hmac.proofs.Among.{among_later}
use Rattle.tpm_model.proofs.Nonces.{has_length, fresh, apart_across, apart_front, nonces-append}

-- ---- what the checks of a session let through

pub no_password : (n : ℕ) → is_session n ≡ true → (n == rs_pw) ≡ false
no_password n s = elim (n == rs_pw) as (λ b. (n == rs_pw) ≡ b → b ≡ false) [
  | true ↦ λ e.
      let same : n ≡ rs_pw = grind (arith, nat_tests) in
      absurd (let bad : is_session rs_pw ≡ true = subst (λ m. is_session m ≡ true) same s in let z : ⊥ = cc in z)
  | false ↦ λ e. refl
] refl

-- a session's command proves itself by the HMAC of that session
pub by_its_session : (s : Option Session) (e : Entity) (code : CommandCode) (names : List (List ℕ)) (params : List ℕ) (update_counter : ℕ) (a : Auth)
    (others : List Auth) (evidence : Evidence)
    → is_session a.session ≡ true → evidence_of s e code names params update_counter (a ∷ others) ≡ Ok evidence
    → (y : Session) × (s ≡ Some y)
    × (evidence ≡ ByMac (record { session = y; key = key_for y e; p_hash = cp_hash y.hash (code_number code) names params; auth = a }))
by_its_session None e code names params update_counter a others evidence is p =
    let b = bind_ok (check_loaded a.session None) _ evidence p in
    absurd (
    let c : by_session None ≡ Ok b.0 = subst (λ t. (if t then Ok Password else by_session None) ≡ Ok b.0) (no_password a.session is) b.1 in
    let z : ⊥ = cc in
    z
    )
by_its_session (Some y) e code names params update_counter a others evidence is p =
    let b = bind_ok (check_loaded a.session (Some y)) _ evidence p in
    let by : BySession y ≡ b.0 =
    ok_is (BySession y) b.0 (subst (λ t. (if t then Ok Password else by_session (Some y)) ≡ Ok b.0) (no_password a.session is) b.1) in
    let c = bind_ok (check_session b.0 a others) _ evidence b.2 in
    let d = bind_ok (check_entity b.0 e code update_counter) _ evidence c.2 in
    (y, refl, sym (ap (λ x. evidence_by x e code names params a) by ∙ ok_is (evidence_by b.0 e code names params a) evidence d.2))

pub some_bytes : (bytes : List ℕ) → 0 < length bytes → is_empty bytes ≡ false
some_bytes [] p = absurd (omega arith)
some_bytes (b ∷ bytes) p = refl

pub both_false : (a b : Bool) → b ≡ false → (a && b) ≡ false
both_false true b e = e
both_false false b e = refl

pub refused_not : (b : Bool) (code : ℕ) → refuse (not b) code ≡ Ok tt → b ≡ true
refused_not true code e = refl
refused_not false code e = absurd (let z : ⊥ = cc in z)

-- a sealed command that was accepted
pub record WasSigned (p : Present) (bytes : List ℕ) (x : Presented) (a : Auth) : Type 0 where
  pub signed : Signed
  pub is : loaded p.sessions a.session ≡ Some signed.session
  pub hashed : List ℕ
  pub text_is : command_text signed ≡ mac_text (digest signed.session.hash hashed) a.nonce signed.session.nonce a.attrs
  pub mac : a.hmac ≡ mac_of (keyed signed)
  pub text : text_in x.evidence ≡ keyed signed ∷ []

by_mac : (e : Entity) (x : Signed) → 0 < length x.auth.hmac → check_evidence e (ByMac x) ≡ Ok tt → x.auth.hmac ≡ mac_of (keyed x)
by_mac e x some c =
    let none : needs_none x ≡ false = both_false (is_empty x.key) (is_empty x.auth.hmac) (some_bytes x.auth.hmac some) in
    let mac = hmac x.session.hash x.key (command_text x) in
    let same : bytes_eq x.auth.hmac mac ≡ true =
    subst (λ t. (if t then true else bytes_eq x.auth.hmac mac) ≡ true) none (refused_not (is_signed x) (failure e) c) in
    (bytes_eq-Decides x.auth.hmac mac).0 same

was_signed : (p : Present) (bytes n : List ℕ) (d : Done) (a : Auth) (s : Passed p bytes n d)
    → d.command.auths.items ≡ a ∷ [] → is_session a.session ≡ true → 0 < length a.hmac → WasSigned p bytes s.x a
was_signed p bytes n d a s one is some =
    let x = s.x in
    let r = was_read p bytes x s.asked in
    let auths : x.auths ≡ a ∷ [] = sym s.auths ∙ one in
    let e = entity_of p (first x.handles) in
    let names = names_of p x.handles in
    let evidence : evidence_of (loaded p.sessions a.session) e x.code names x.params p.registers.update_counter (a ∷ []) ≡ Ok x.evidence =
    subst (λ l. evidence_of (first_loaded (loaded p.sessions) l) e x.code names x.params p.registers.update_counter l ≡ Ok x.evidence) auths r.evidence in
    let y = by_its_session (loaded p.sessions a.session) e x.code names x.params p.registers.update_counter a [] x.evidence is evidence in
    let signed : Signed = record { session = y.0; key = key_for y.0 e; p_hash = cp_hash y.0.hash (code_number x.code) names x.params; auth = a } in
    let checked : check_evidence x.entity (ByMac signed) ≡ Ok tt = subst (λ q. check_evidence x.entity q ≡ Ok tt) y.2 s.evidence in
    let none : needs_none signed ≡ false = both_false (is_empty signed.key) (is_empty a.hmac) (some_bytes a.hmac some) in
    record {
      signed = signed;
      is = y.1;
      hashed = to_be_bytes w32 (code_number x.code) ++ (flat_map (λ name. name) names ++ x.params);
      text_is = refl;
      mac = by_mac x.entity signed some checked;
      text = ap text_in y.2 ∙ ap (λ t. if t then [] else keyed signed ∷ []) none;
    }

-- ---- its text is among those that are checked

pub among_here : (o : Origin) (h : History) (es fs : List Stimulus) (bytes n : List ℕ) (x : Keyed)
    → text_checked (presented (present o (after o h es)) bytes) ≡ x ∷ [] → IsAmong x (texts_checked o h (es ++ Given bytes n ∷ fs))
among_here o h [] fs bytes n x e = subst (λ xs. IsAmong x (xs ++ texts_checked o (next o h bytes n) fs)) (sym e) (inl refl)
among_here o h (Given b m ∷ es) fs bytes n x e =
    among_later x (text_checked (presented (present o h) b)) (texts_checked o (next o h b m) (es ++ Given bytes n ∷ fs))
    (among_here o (next o h b m) es fs bytes n x e)
among_here o h (Cycled ∷ es) fs bytes n x e = among_here o (PowerCycle ∷ h) es fs bytes n x e

-- ---- cutting texts

pub cut_front : (a b x y : List ℕ) → length a ≡ length b → a ++ x ≡ b ++ y → x ≡ y
cut_front a b x y l e = sym (drop_at a x (length a) refl) ∙ ap (drop (length a)) e ∙ drop_at b y (length a) (sym l)

same_older : (p q newer u v : List ℕ) (f : ℕ) → length p ≡ length q → mac_text p newer u f ≡ mac_text q newer v f → u ≡ v
same_older p q newer u v f l e =
    append_cancel_right u v (f ∷ [])
    (append_cancel_left newer (u ++ f ∷ []) (v ++ f ∷ []) (cut_front p q (newer ++ (u ++ f ∷ [])) (newer ++ (v ++ f ∷ [])) l e))

-- equal front parts of two nonces
same_front : (j k : ℕ) (x y : List ℕ) → least_nonce ≤ j → least_nonce ≤ k → take j x ≡ take k y → take least_nonce x ≡ take least_nonce y
same_front j k x y a b e = sym (take-take least_nonce j x a) ∙ ap (take least_nonce) e ∙ take-take least_nonce k y b

-- ---- the two nonces

pub chosen : {A : Type 0} (b a : Bool) (n old : A) → a ≡ true → (if b || a then n else old) ≡ n
chosen true a n old e = refl
chosen false true n old e = refl
chosen false false n old e = absurd (let z : ⊥ = cc in z)

pub its_slot : (a : Auth) → is_session a.session ≡ true → authorizes (slot_of a.session) (a ∷ []) ≡ true
its_slot a is = rw is (let same : (slot_of a.session == slot_of a.session) ≡ true = grind (arith, nat_tests) in same)

-- The nonce of the session's last step before the first use differs from that before the second.
uses_apart : (o : Origin) (es fs : List Stimulus) (k : ℕ) (n : List ℕ) (g : History) → lives k (after o [] es) ≡ true
    → (lives k g ≡ true → last_nonce k g ≡ n) → lives k (after o g fs) ≡ true → AreApart (nonces es ++ n ∷ nonces fs)
    → take least_nonce (last_nonce k (after o [] es)) ≢ take least_nonce (last_nonce k (after o g fs))
uses_apart o es fs k n g before start live differ =
    let h = after o [] es in
    let old = fresh (λ _. ⊥) o k es [] (λ p. absurd (let z : ⊥ = cc in z)) before in
    let new = fresh (λ x. x ≡ n) o k fs g start live in
    apart_across (nonces es) (n ∷ nonces fs) (last_nonce k h) (last_nonce k (after o g fs)) differ (elim old [ inl none ↦ absurd none | inr i ↦ i ]) new

-- the nonces up to the second use
first_nonces : (es fs gs : List Stimulus) (bytes other n m : List ℕ) → NoncesDiffer (es ++ Given bytes n ∷ fs ++ Given other m ∷ gs)
    → AreApart (nonces es ++ n ∷ nonces fs)
first_nonces es fs gs bytes other n m differ =
    let listed : nonces (es ++ Given bytes n ∷ fs ++ Given other m ∷ gs) ≡ (nonces es ++ n ∷ nonces fs) ++ m ∷ nonces gs =
    nonces-append (es ++ Given bytes n ∷ fs) (Given other m ∷ gs) ∙ ap (λ (l : List (List ℕ)). l ++ m ∷ nonces gs) (nonces-append es (Given bytes n ∷ fs)) in
    apart_front (nonces es ++ n ∷ nonces fs) (m ∷ nonces gs) (subst AreApart listed differ)

one_nonce : (p q : Present) (bytes other : List ℕ) (x y : Presented) (a : Auth) (v : WasSigned p bytes x a) (w : WasSigned q other y a)
    → (keyed v.signed).text ≡ (keyed w.signed).text → v.signed.session.nonce ≡ w.signed.session.nonce
one_nonce p q bytes other x y a v w one_text =
    let s = v.signed.session in
    let t = w.signed.session in
    let one_length =
    sym (length-hmac s.hash v.signed.key (command_text v.signed)) ∙ ap length (sym v.mac ∙ w.mac)
    ∙ length-hmac t.hash w.signed.key (command_text w.signed) in
    let lengths = length-digest s.hash v.hashed ∙ one_length ∙ sym (length-digest t.hash w.hashed) in
    same_older (digest s.hash v.hashed) (digest t.hash w.hashed) a.nonce s.nonce t.nonce a.attrs lengths (sym v.text_is ∙ one_text ∙ w.text_is)

-- a command with an HMAC that was accepted
pub record Used (o : Origin) (h : History) (bytes n : List ℕ) (a : Auth) : Type 0 where
  pub d : Done
  pub done : outcome (present o h) bytes n ≡ Ok d
  pub authorized : d.command.auths.items ≡ a ∷ []
  pub x : Presented
  pub by : WasSigned (present o h) bytes x a
  pub checked : text_checked (presented (present o h) bytes) ≡ keyed by.signed ∷ []

pub used : (o : Origin) (h : History) (bytes n : List ℕ) (c : Command) (a : Auth) → Spells command c bytes → c.auths.items ≡ a ∷ []
    → is_session a.session ≡ true → 0 < length a.hmac → IsAccepted o h bytes n → Used o h bytes n a
used o h bytes n c a spells one is some (d, e) =
    let s = passed (present o h) bytes n d e in
    let same = (exactly_one buffer buffer_sound command bytes).one_value d.command c (spelled_by (present o h) bytes n d s) spells in
    let auths : d.command.auths.items ≡ a ∷ [] = ap (λ (x : Command). x.auths.items) same ∙ one in
    let v = was_signed (present o h) bytes n d a s auths is some in
    record { d = d; done = e; authorized = auths; x = s.x; by = v; checked = ap text_checked s.asked ∙ v.text }

-- The session lives at both histories, and the nonces of its last steps begin alike.
pub record AreAlike (k : ℕ) (h j : History) : Type 0 where
  pub first : lives k h ≡ true
  pub second : lives k j ≡ true
  pub front : take least_nonce (last_nonce k h) ≡ take least_nonce (last_nonce k j)

-- Two uses with one text, of one device or of two, are so.
pub alike : (o p : Origin) (es gs : List Stimulus) (bytes other n m : List ℕ) (a : Auth) (v : Used o (after o [] es) bytes n a)
    (w : Used p (after p [] gs) other m a)
    → (keyed v.by.signed).text ≡ (keyed w.by.signed).text → AreAlike (slot_of a.session) (after o [] es) (after p [] gs)
alike o p es gs bytes other n m a v w one_text =
    let h = after o [] es in
    let j = after p [] gs in
    let k = slot_of a.session in
    let s = v.by.signed.session in
    let t = w.by.signed.session in
    let older = one_nonce (present o h) (present p j) bytes other v.x w.x a v.by w.by one_text in
    let x = held o h a.session s v.by.is in
    let y = held p j a.session t w.by.is in
    record {
      first = x.live;
      second = y.live;
      front =
          same_front (length x.start.request.params.nonce_caller) (length y.start.request.params.nonce_caller) (last_nonce k h) (last_nonce k j)
          (has_length o es a.session s x).0 (has_length p gs a.session t y).0
          (sym (ap (λ (s : Session). s.nonce) x.is) ∙ older ∙ ap (λ (s : Session). s.nonce) y.is);
    }

-- One command with an HMAC is not accepted twice.
pub twice_as : (o : Origin) (es fs gs : List Stimulus) (bytes other n m : List ℕ) (c : Command) (a : Auth)
    → NoncesDiffer (es ++ Given bytes n ∷ fs ++ Given other m ∷ gs) → NoCollision o (es ++ Given bytes n ∷ fs ++ Given other m ∷ gs)
    → Spells command c bytes → Spells command c other → c.auths.items ≡ a ∷ [] → is_session a.session ≡ true → 0 < length a.hmac
    → IsAccepted o (after o [] es) bytes n → IsAccepted o (after o [] (es ++ Given bytes n ∷ fs)) other m → ⊥
twice_as o es fs gs bytes other n m c a differ apart spells others one is some first second =
    let h = after o [] es in
    let j = after o [] (es ++ Given bytes n ∷ fs) in
    let v = used o h bytes n c a spells one is some first in
    let w = used o j other m c a others one is some second in
    let among_v =
    subst (λ (l : List Stimulus). IsAmong (keyed v.by.signed) (texts_checked o [] l)) (sym (append_assoc es (Given bytes n ∷ fs) (Given other m ∷ gs)))
    (among_here o [] es (fs ++ Given other m ∷ gs) bytes n (keyed v.by.signed) v.checked) in
    let among_w = among_here o [] (es ++ Given bytes n ∷ fs) gs other m (keyed w.by.signed) w.checked in
    let one_text = apart (keyed v.by.signed) (keyed w.by.signed) among_v among_w (sym v.by.mac ∙ w.by.mac) in
    let both = alike o o es (es ++ Given bytes n ∷ fs) bytes other n m a v w one_text in
    let d = v.d in
    let k = slot_of a.session in
    let g : History = Accepted d.command d.reply n ∷ h in
    let there : j ≡ after o g fs = after-append o [] es (Given bytes n ∷ fs) ∙ ap (λ (l : History). after o l fs) (next_is o h bytes n d v.done) in
    let by_it = ap (authorizes k) v.authorized ∙ its_slot a is in
    uses_apart o es fs k n g both.first
    (λ _. chosen (begins k d.command.body d.reply.body) (authorizes k d.command.auths.items) n (last_nonce k h) by_it)
    (subst (λ (l : History). lives k l ≡ true) there both.second) (first_nonces es fs gs bytes other n m differ)
    (both.front ∙ ap (λ (l : History). take least_nonce (last_nonce k l)) there)

pub twice : (o : Origin) (es fs gs : List Stimulus) (bytes n m : List ℕ)
    → NoncesDiffer (es ++ Given bytes n ∷ fs ++ Given bytes m ∷ gs) → NoCollision o (es ++ Given bytes n ∷ fs ++ Given bytes m ∷ gs) → HasSessionMac bytes
    → IsAccepted o (after o [] es) bytes n → IsAccepted o (after o [] (es ++ Given bytes n ∷ fs)) bytes m → ⊥
twice o es fs gs bytes n m differ apart (c, a, spells, one, is, some) = twice_as o es fs gs bytes bytes n m c a differ apart spells spells one is some
