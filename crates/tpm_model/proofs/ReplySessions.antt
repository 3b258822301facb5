-- The sessions of a response are read alike, whichever command it is read as the response to.
use Rattle.std.proofs.Common.{◌≡◌, ℕ, List, [], length, take, Result, Ok, Err, Some, None, Option, Bool, true, false}
use Rattle.std.proofs.Common.{refl, sym, ap, ◌∙◌, subst}
use Rattle.std.proofs.lemmas.Bool.{eqb-true}
use Rattle.std.specs.Prelude.{◌==◌, if◌then◌else◌}
use Rattle.tpm_wire.specs.declared.refusal.Refusal.{Refusal}
use Rattle.tpm_wire.specs.Buffers.{buffer, Layout, number_in}
use Rattle.tpm_wire.specs.Layout.Form.{area}
use Rattle.tpm_wire.specs.Layout.{Form, either}
use Rattle.tpm_wire.specs.Token.{Here, past, at_start, number_of, or_fault}
use Rattle.tpm_wire.specs.Reading.{read, read_all, finish, refuse, unless, ◌>>=◌}
use Rattle.tpm_wire.specs.ResponseCodes.{rc_size}
use Rattle.tpm_wire.proofs.Agreement.{bind_ok, number_ok}
use Rattle.tpm_wire.proofs.Buffers.{buffer_sound}
use Rattle.tpm_types.specs.declared.tpms.AuthReply.{AuthReply}
use Rattle.tpm_types.specs.declared.command_code.CommandCode.{CommandCode}
use Rattle.tpm_commands.specs.declared.command.ReplyBody.{ReplyBody}
use Rattle.tpm_commands.specs.declared.response.Response.{Response}
use Rattle.tpm_commands.specs.Handles.{needs_authorization}
use Rattle.tpm_commands.specs.Replies.{reply_handles, reply_parameters}
use Rattle.tpm_types.specs.declared.command_code.CommandCode.TheVariants as codes
use Rattle.tpm_commands.specs.declared.response.Response.TheVariants as responses
use Rattle.tpm_buffer.specs.Commands.{command_size}
use Rattle.tpm_buffer.specs.Responses.{is_response_tag, response_tag, response_front, response_code, parameter_size}
use Rattle.tpm_buffer.specs.Responses.{reply_sessions, Reply, with_sessions, without_sessions, reply_behind, reply}
use Rattle.tpm_buffer.specs.Responses.{reply_of, done_with, behind_code, response}
use Rattle.tpm_model.proofs.Sealing.{okay, okay_is}

-- ---- the sessions alone

abbrev pub auths_at : Bool → Here → Result (List AuthReply × Here) Refusal
auths_at true h = read 0 parameter_size h >>= λ s. read 0 reply_sessions (past s.0 s.1)
auths_at false h = Ok ([], h)

abbrev pub auths_behind : ℕ → ℕ → Here → Result (List AuthReply × Here) Refusal
auths_behind t n = auths_at (t == 0x8002)

-- what is read behind the front and the code of a response, by its tag and its code
abbrev pub behind_front : {A : Type 0} → (ℕ → ℕ → Here → Result A Refusal) → List ℕ → Result A Refusal
behind_front next bytes = read 0 response_front (at_start bytes) >>= λ f. read 0 (response_code f.0.0) f.1 >>= λ n. next f.0.0 n.0 n.1

abbrev pub session_list : List ℕ → Result (List AuthReply × Here) Refusal
session_list bytes = behind_front auths_behind bytes

-- The list has these sessions.
abbrev pub Lists : Result (List AuthReply × Here) Refusal → List AuthReply → Type 0
Lists r auths = (g : Here) × (r ≡ Ok (auths, g))

-- what comes after a success
pub goes_on : {A B : Type 0} (r : Result A Refusal) (f : A → Result B Refusal) (x : A) (y : Result B Refusal) → r ≡ Ok x → f x ≡ y → (r >>= f) ≡ y
goes_on r f x y e g = ap (λ z. z >>= f) e ∙ g

-- ---- the front of a response

pub record Fronted {A : Type 0} (next : ℕ → ℕ → Here → Result A Refusal) (bytes : List ℕ) (x : A) : Type 0 where
  pub front : (ℕ × ℕ) × Here
  pub begins : read 0 response_front (at_start bytes) ≡ Ok front
  pub code : ℕ × Here
  pub follows : read 0 (response_code front.0.0) front.1 ≡ Ok code
  pub last : next front.0.0 code.0 code.1 ≡ Ok x

pub fronted : {A : Type 0} (next : ℕ → ℕ → Here → Result A Refusal) (bytes : List ℕ) (x : A) → behind_front next bytes ≡ Ok x → Fronted next bytes x
fronted next bytes x e =
    let f = bind_ok (read 0 response_front (at_start bytes)) _ x e in
    let n = bind_ok (read 0 (response_code f.0.0.0) f.0.1) _ x f.2 in
    record { front = f.0; begins = f.1; code = n.0; follows = n.1; last = n.2 }

-- The same bytes are read otherwise behind the code.
pub fronted_too : {A B : Type 0} (next : ℕ → ℕ → Here → Result A Refusal) (other : ℕ → ℕ → Here → Result B Refusal) (bytes : List ℕ) (x : A)
    (y : Result B Refusal) (p : Fronted next bytes x)
    → other p.front.0.0 p.code.0 p.code.1 ≡ y → behind_front other bytes ≡ y
fronted_too next other bytes x y p e = rw (p.begins, p.follows) e

-- ---- in a response to a command

behind_room : {A : Type 0} (o : Option ℕ) (h : Here) (next : Result A Refusal) (x : A) → unless buffer o 0 h next ≡ Ok x → next ≡ Ok x
behind_room None h next x e = e
behind_room (Some fault) h next x e = absurd (let z : ⊥ = cc in z)

at_end : {A : Type 0} (b : Bool) (y x : A × Here) (n : ℕ) (h : Here) → (if b then okay {E = Refusal} (y.0, past n h) else refuse buffer 0 rc_size y.1) ≡ Ok x
    → x.1 ≡ past n h
at_end true y x n h e = sym (ap (λ (z : _ × Here). z.1) (okay_is {E = Refusal} (y.0, past n h) x e))
at_end false y x n h e = absurd (let z : ⊥ = cc in z)

area_past : {A : Type 0} (n : ℕ) (l : Layout A) (h : Here) (x : A × Here) → read 0 (area n rc_size l) h ≡ Ok x → x.1 ≡ past n h
area_past n l h x e =
    let inside = behind_room (buffer.lacks 0 h.at n (length h.rest)) h _ x e in
    let a = bind_ok (read 0 l (record { rest = take n h.rest; at = h.at })) _ x inside in
    at_end (length a.0.1.rest == 0) a.0 x n h a.2

abbrev reply_at : ReplyBody → List AuthReply → Here → Reply × Here
reply_at body auths h = (record { body = body; auths = auths }, h)

with_listed : (l : Layout ReplyBody) (h : Here) (x : Reply × Here) → read 0 (with_sessions l) h ≡ Ok x → Lists (auths_at true h) x.0.auths
unfolding with_sessions
with_listed l h x e =
    let a = bind_ok (read 0 parameter_size h) _ x e in
    let b = bind_ok (read 0 (area a.0.0 rc_size l) a.0.1) _ x a.2 in
    let c = bind_ok (read 0 reply_sessions b.0.1) _ x b.2 in
    let same = okay_is {E = Refusal} (reply_at b.0.0 c.0.0 c.0.1) x c.2 in
    let there = area_past a.0.0 l a.0.1 b.0 b.1 in
    let here : read 0 reply_sessions (past a.0.0 a.0.1) ≡ Ok (x.0.auths, c.0.1) =
    ap (read 0 reply_sessions) (sym there) ∙ c.1 ∙ ap (λ (z : Reply × Here). okay {E = Refusal} (z.0.auths, c.0.1)) same in
    (c.0.1, goes_on (read 0 parameter_size h) (λ s. read 0 reply_sessions (past s.0 s.1)) a.0 (Ok (x.0.auths, c.0.1)) a.1 here)

without_listed : (l : Layout ReplyBody) (h : Here) (x : Reply × Here) → read 0 (without_sessions l) h ≡ Ok x → Lists (auths_at false h) x.0.auths
unfolding without_sessions
without_listed l h x e =
    let a = bind_ok (read 0 l h) _ x e in
    let same = okay_is {E = Refusal} (reply_at a.0.0 [] a.0.1) x a.2 in
    (h, ap (λ (z : Reply × Here). okay {E = Refusal} (z.0.auths, h)) same)

either_listed : (two : Bool) (l : Layout ReplyBody) (h : Here) (x : Reply × Here) → read 0 (either two (with_sessions l) (without_sessions l)) h ≡ Ok x
    → Lists (auths_at two h) x.0.auths
either_listed true l h x e = with_listed l h x e
either_listed false l h x e = without_listed l h x e

abbrev none : Layout (List ℕ)
none = Form.done []

pub no_handles : (code : CommandCode) → needs_authorization code ≡ true → reply_handles code ≡ none
no_handles codes.StartAuthSession e = absurd (let z : ⊥ = cc in z)
no_handles _ e = refl

reply_listed : (code : CommandCode) (t : ℕ) (h : Here) (x : Reply × Here) → needs_authorization code ≡ true → read 0 (reply code t) h ≡ Ok x
    → Lists (auths_at (t == 0x8002) h) x.0.auths
reply_listed code t h x needs e =
    let f : (read 0 none h >>= λ y. read 0 (reply_behind t (reply_parameters code y.0)) y.1) ≡ Ok x =
    subst (λ l. (read 0 l h >>= λ y. read 0 (reply_behind t (reply_parameters code y.0)) y.1) ≡ Ok x) (no_handles code needs) e in
    either_listed (t == 0x8002) (reply_parameters code []) h x f

code_listed : (code : CommandCode) (t n : ℕ) (h : Here) (body : ReplyBody) (auths : List AuthReply) (g : Here) → needs_authorization code ≡ true
    → read 0 (behind_code code t n) h ≡ Ok (done_with (record { body = body; auths = auths }), g) → Lists (auths_at (t == 0x8002) h) auths
code_listed code t n h body auths g needs e = go (n == 0) e
  where
    go : (zero : Bool)
        → read 0 (either zero (Form.field reply_of (reply code t) (λ r. Form.done (done_with r))) (Form.done (responses.Code n))) h
        ≡ Ok (done_with (record { body = body; auths = auths }), g)
        → Lists (auths_at (t == 0x8002) h) auths
    go true e =
        let a = bind_ok (read 0 (reply code t) h) (λ r. okay {E = Refusal} (done_with r.0, r.1)) _ e in
        let same = okay_is {E = Refusal} (done_with a.0.0, a.0.1) (done_with (record { body = body; auths = auths }), g) a.2 in
        subst (Lists (auths_at (t == 0x8002) h)) (ap (λ (z : Response × Here). (reply_of z.0).auths) same) (reply_listed code t h a.0 needs a.1)
    go false e =
        let same = okay_is {E = Refusal} (responses.Code n, h) (done_with (record { body = body; auths = auths }), g) e in
        absurd (let k : responses.Code n ≡ done_with (record { body = body; auths = auths }) = ap (λ (z : Response × Here). z.0) same in let z : ⊥ = cc in z)

pub finished : {A : Type 0} (x y : A × Here) → finish buffer x ≡ Ok y → x ≡ y
finished x y e = go (length x.1.rest == 0) e
  where
    go : (b : Bool) → (if b then okay {E = Refusal} x else refuse buffer 0 rc_size x.1) ≡ Ok y → x ≡ y
    go true e = okay_is {E = Refusal} x y e
    go false e = absurd (let z : ⊥ = cc in z)

-- What is read whole leaves nothing behind it.
pub from_start : {A : Type 0} (o : Result (A × Here) Refusal) (x : A) → (o >>= finish buffer >>= λ y. okay {E = Refusal} y.0) ≡ Ok x
    → (g : Here) × (o ≡ Ok (x, g)) × (length g.rest ≡ 0)
from_start (Err e) x is = absurd (let z : ⊥ = cc in z)
from_start {A = A} (Ok y) x is = go (length y.1.rest == 0) refl is
  where
    go : (b : Bool) → (length y.1.rest == 0) ≡ b → ((if b then okay {E = Refusal} y else refuse buffer 0 rc_size y.1) >>= λ z. okay {E = Refusal} z.0) ≡ Ok x
        → (g : Here) × (okay {E = Refusal} y ≡ Ok (x, g)) × (length g.rest ≡ 0)
    go true t e = (y.1, ap (λ (z : A). okay {E = Refusal} (z, y.1)) (okay_is {E = Refusal} y.0 x e), eqb-true _ _ t)
    go false t e = absurd (let z : ⊥ = cc in z)

-- Where it is read, its sessions are those of the list.
pub listed : (code : CommandCode) (bytes : List ℕ) (body : ReplyBody) (auths : List AuthReply) → needs_authorization code ≡ true
    → read_all (response code) bytes ≡ Ok (done_with (record { body = body; auths = auths })) → Lists (session_list bytes) auths
unfolding response
listed code bytes body auths needs e =
    let r = done_with (record { body = body; auths = auths }) in
    let whole = from_start (read 0 (response code) (at_start bytes)) r e in
    let p = fronted (λ t n. read 0 (behind_code code t n)) bytes (r, whole.0) whole.1 in
    let c = code_listed code p.front.0.0 p.code.0 p.code.1 body auths whole.0 needs p.last in
    (c.0, fronted_too (λ t n. read 0 (behind_code code t n)) auths_behind bytes (r, whole.0) (Ok (auths, c.0)) p c.1)

-- ---- a response without sessions

pub meant : (b : Bool) (n y fault : ℕ) → or_fault {F = ℕ} (if b then Some n else None) fault ≡ Ok y → n ≡ y
meant true n y fault e = okay_is {E = ℕ} n y e
meant false n y fault e = absurd (let z : ⊥ = cc in z)

pub in_place : (mark width : ℕ) (set : ℕ → Bool) (code : ℕ) (h : Here) (x : ℕ × Here) → read mark (number_in width set code) h ≡ Ok x
    → (number_of (take width h.rest) ≡ x.0) × (x.1 ≡ past width h)
in_place mark width set code h x e =
    let n = number_ok buffer buffer_sound mark width (λ left n. if set n then Some n else None) (λ n. n) code h x e in
    (meant (set (number_of (take width h.rest))) (number_of (take width h.rest)) x.0 code n.1, sym n.2)

pub front_tag : (bytes : List ℕ) (x : (ℕ × ℕ) × Here) → read 0 response_front (at_start bytes) ≡ Ok x → number_of (take 2 bytes) ≡ x.0.0
unfolding response_front response_tag
front_tag bytes x e =
    let a = bind_ok (read 0 response_tag (at_start bytes)) _ x e in
    let b = bind_ok (read 0 command_size a.0.1) _ x a.2 in
    (in_place 0 2 is_response_tag 0x01E (at_start bytes) a.0 a.1).0 ∙ ap (λ (z : (ℕ × ℕ) × Here). z.0.0) (okay_is {E = Refusal} ((a.0.0, b.0.0), b.0.1) x b.2)

pub none_listed : (bytes : List ℕ) (auths : List AuthReply) → number_of (take 2 bytes) ≡ 0x8001 → Lists (session_list bytes) auths → auths ≡ []
none_listed bytes auths tag l =
    let p = fronted auths_behind bytes (auths, l.0) l.1 in
    let t : p.front.0.0 ≡ 0x8001 = sym (front_tag bytes p.front p.begins) ∙ tag in
    let nothing : okay {E = Refusal} ([], p.code.1) ≡ Ok (auths, l.0) = subst (λ (t : ℕ). auths_at (t == 0x8002) p.code.1 ≡ Ok (auths, l.0)) t p.last in
    sym (ap (λ (z : List AuthReply × Here). z.0) (okay_is {E = Refusal} ([], p.code.1) (auths, l.0) nothing))
