-- The sessions of a response's view are those bytes of the response.
use Rattle.std.proofs.Common.{◌≡◌, ℕ, zero, suc, ◌+◌, ◌*◌, List, [], ◌∷◌, ◌++◌, length, take, drop, Option, Some, None}
use Rattle.std.proofs.Common.{Result, Ok, Bool, true, false, refl, sym, ap, ◌∙◌, subst, arith, append_assoc, append-nil}
use Rattle.std.proofs.Common.{length-take-le}
use Rattle.std.specs.Prelude.{◌==◌, nat_le, if◌then◌else◌}
use Rattle.tpm_wire.specs.declared.refusal.Refusal.{Refusal}
use Rattle.tpm_wire.specs.Buffers.{buffer, number_in, too_few}
use Rattle.tpm_wire.specs.Layout.{Form, raw, remaining, either}
use Rattle.tpm_wire.specs.ResponseCodes.{rc_reserved_bits, rc_size, rc_value, of_handle, of_session}
use Rattle.tpm_wire.specs.Structures.{sized_bytes}
use Rattle.tpm_wire.specs.Token.{Here, past, at_start}
use Rattle.tpm_wire.specs.Reading.{read, read_all, finish, unless, entries, ◌>>=◌}
use Rattle.tpm_wire.specs.Path.{Spells}
use Rattle.tpm_wire.proofs.Agreement.{bind_ok, number_ok}
use Rattle.tpm_wire.proofs.Buffers.{buffer_sound}
use Rattle.tpm_wire.proofs.Whole.{spells_read}
use Rattle.tpm_types.specs.declared.tpms.AuthReply.{AuthReply}
use Rattle.tpm_types.specs.Handles.{is_session, session}
use Rattle.tpm_types.specs.Limits.{digest_bytes}
use Rattle.tpm_types.specs.Tpm2b.{nonce, auth_value}
use Rattle.tpm_types.specs.Tpma.{is_session_attrs, session_attrs}
use Rattle.tpm_types.specs.Tpms.{auth_response}
use Rattle.tpm_types.specs.declared.command_code.CommandCode.{CommandCode}
use Rattle.tpm_commands.specs.Replies.{reply_handles}
use Rattle.tpm_commands.specs.Commands.Session.{session_handle}
use Rattle.tpm_types.specs.declared.command_code.CommandCode.TheVariants as codes
use Rattle.tpm_buffer.specs.Responses.{response_front, response_code, parameter_size, further_sessions, reply_sessions}
use Rattle.tpm_buffer.specs.Responses.{ReplyCut, raw_with_sessions, raw_without_sessions, cut_behind_code, reply_cut}
use Rattle.tpm_buffer.specs.ResponseAreas.{HasItsParams, place_behind}
use Rattle.tpm_buffer.specs.inner.ResponseAreas.{IsPlaceIn}
use Rattle.tpm_buffer.proofs.Places.{stands_first, stands_behind}
use Rattle.tpm_buffer.proofs.ReadSessions.{place_before_sessions}
use Rattle.tpm_model.proofs.Sealing.{okay, okay_is}
use Rattle.tpm_model.proofs.ReplySessions.{finished}
use Rattle.tpm_model.proofs.ReplyBytes.{front_place, code_place, size_place}
use Rattle.tpm_c.specs.ResponseViews.{HoldsSession, HoldsParts, behind, place}
use Rattle.tpm_c.proofs.Parts.{AreHeld, first_three}

abbrev pair : List ℕ → Here → List ℕ × Here
pair x h = (x, h)

-- these bytes stand at the place, and the other is right behind them
record IsThere (bytes : List ℕ) (n : ℕ) (x : List ℕ) (g : Here) : Type 0 where
  is : take (length x) (drop n bytes) ≡ x
  at : g.at ≡ n + length x

raw_there : (bytes : List ℕ) (m n : ℕ) (h g : Here) (x : List ℕ) → IsPlaceIn bytes h → read {r = buffer} m (raw n) h ≡ Ok (x, g) → IsThere bytes h.at x g
raw_there bytes m n h g x s e = go (too_few m h.at n (length h.rest)) refl e
  where
    go : (o : Option ℕ) → too_few m h.at n (length h.rest) ≡ o
        → unless buffer o m h (okay {E = Refusal} (pair (take n h.rest) (past n h))) ≡ Ok (x, g) → IsThere bytes h.at x g
    go (Some f) t e = absurd (let z : ⊥ = cc in z)
    go None t e =
        let same = okay_is {E = Refusal} (pair (take n h.rest) (past n h)) (pair x g) e in
        let value : take n h.rest ≡ x = ap (λ (p : List ℕ × Here). p.0) same in
        let long : length x ≡ n = sym (ap length value) ∙ length-take-le n h.rest (buffer_sound m h.at n (length h.rest) t) in
        record {
          is = ap (λ (k : ℕ). take k (drop h.at bytes)) long ∙ ap (take n) (sym s.rest) ∙ value;
          at = sym (ap (λ (p : List ℕ × Here). p.1.at) same) ∙ ap (λ (k : ℕ). h.at + k) (sym long);
        }

sized_there : (bytes : List ℕ) (m most : ℕ) (h g : Here) (x : List ℕ) → IsPlaceIn bytes h → read m (sized_bytes most) h ≡ Ok (x, g)
    → IsThere bytes (h.at + 2) x g
unfolding sized_bytes
sized_there bytes m most h g x s e =
    let size = number_in 2 (λ n. nat_le n most) rc_size in
    let a = bind_ok (read m size h) _ (pair x g) e in
    let n = number_ok buffer buffer_sound m 2 (λ left n. if nat_le n most then Some n else None) (λ n. n) rc_size h a.0 a.1 in
    let there : IsPlaceIn bytes a.0.1 = stands_behind bytes m size h a.0.1 a.0.0 s a.1 in
    let at : a.0.1.at ≡ h.at + 2 = ap (λ (p : Here). p.at) (sym n.2) in
    subst (λ (k : ℕ). IsThere bytes k x g) at (raw_there bytes m a.0.0 a.0.1 g x there a.2)

-- ---- a session

abbrev session_at : List ℕ → ℕ → List ℕ → Here → AuthReply × Here
session_at n f m g = (record { nonce = n; attrs = f; hmac = m }, g)

-- The session stands at the place, and the other is right behind it.
abbrev IsHeld : List ℕ → ℕ → AuthReply × Here → Type 0
IsHeld bytes n x = HoldsSession bytes n (Some x.0) × (x.1.at ≡ behind n (Some x.0))

session_held : (bytes : List ℕ) (m : ℕ) (h : Here) (x : AuthReply × Here) → IsPlaceIn bytes h → read m auth_response h ≡ Ok x → IsHeld bytes h.at x
unfolding auth_response session_attrs
session_held bytes m h x s e =
    let a = bind_ok (read m nonce h) _ x e in
    let b = bind_ok (read m session_attrs a.0.1) _ x a.2 in
    let c = bind_ok (read m auth_value b.0.1) _ x b.2 in
    let same = okay_is {E = Refusal} (session_at a.0.0 b.0.0 c.0.0 c.0.1) x c.2 in
    let behind_nonce : IsPlaceIn bytes a.0.1 = stands_behind bytes m nonce h a.0.1 a.0.0 s a.1 in
    let behind_attrs : IsPlaceIn bytes b.0.1 = stands_behind bytes m session_attrs a.0.1 b.0.1 b.0.0 behind_nonce b.1 in
    let n = number_ok buffer buffer_sound m 1 (λ left n. if is_session_attrs n then Some n else None) (λ n. n) rc_reserved_bits a.0.1 b.0 b.1 in
    let one : b.0.1.at ≡ a.0.1.at + 1 = ap (λ (p : Here). p.at) (sym n.2) in
    let first = sized_there bytes m digest_bytes h a.0.1 a.0.0 s a.1 in
    let last = sized_there bytes m digest_bytes b.0.1 c.0.1 c.0.0 behind_attrs c.1 in
    let at : h.at + 5 + length a.0.0 ≡ b.0.1.at + 2 = omega (arith, one, first.at) in
    let end : c.0.1.at ≡ h.at + 5 + length a.0.0 + length c.0.0 = omega (arith, at, last.at) in
    subst (IsHeld bytes h.at) same ((first.is, ap (λ (k : ℕ). take (length c.0.0) (drop k bytes)) at ∙ last.is), end)

-- ---- sessions, one behind the other

abbrev AreIn : List ℕ → ℕ → List AuthReply → Type 0
AreIn bytes = AreHeld (HoldsSession bytes) behind

abbrev one : List AuthReply → Here → Result (AuthReply × Here) Refusal
one before h = read (of_session (2 + length before)) auth_response h

abbrev listed : List AuthReply → Here → List AuthReply × Here
listed auths h = (auths, h)

-- behind those before there are these
record GoOn (bytes : List ℕ) (before auths : List AuthReply) (n : ℕ) : Type 0 where
  more : List AuthReply
  is : auths ≡ before ++ more
  held : AreIn bytes n more

ended : (bytes : List ℕ) (before : List AuthReply) (h : Here) (x : List AuthReply × Here)
    → okay {E = Refusal} (listed before h) ≡ Ok x → GoOn bytes before x.0 h.at
ended bytes before h x e =
    let same = okay_is {E = Refusal} (listed before h) x e in
    record { more = []; is = sym (ap (λ (p : List AuthReply × Here). p.0) same) ∙ sym (append-nil before); held = tt }

more_held : (bytes : List ℕ) (n : ℕ) (before : List AuthReply) (h : Here) (x : List AuthReply × Here)
    → IsPlaceIn bytes h → entries n before true one h ≡ Ok x → GoOn bytes before x.0 h.at
more_held bytes zero before h x s e = ended bytes before h x e
more_held bytes (suc n) before h x s e = go (length h.rest == 0) (λ b g. more_held bytes n b g x) e
  where
    go : (none : Bool) → ((b : List AuthReply) (g : Here) → IsPlaceIn bytes g → entries n b true one g ≡ Ok x → GoOn bytes b x.0 g.at)
        → (if none then okay {E = Refusal} (listed before h)
        else (one before h >>= λ y. entries n (before ++ y.0 ∷ []) true one y.1)) ≡ Ok x → GoOn bytes before x.0 h.at
    go true again e = ended bytes before h x e
    go false again e =
        let mark = of_session (2 + length before) in
        let a = bind_ok (one before h) (λ y. entries n (before ++ y.0 ∷ []) true one y.1) x e in
        let first = session_held bytes mark h a.0 s a.1 in
        let there : IsPlaceIn bytes a.0.1 = stands_behind bytes mark auth_response h a.0.1 a.0.0 s a.1 in
        let rest = again (before ++ a.0.0 ∷ []) a.0.1 there a.2 in
        record {
          more = a.0.0 ∷ rest.more;
          is = rest.is ∙ append_assoc before (a.0.0 ∷ []) rest.more;
          held = (first.0, subst (λ (k : ℕ). AreIn bytes k rest.more) first.1 rest.held);
        }

sessions_held : (bytes : List ℕ) (h : Here) (x : List AuthReply × Here) → IsPlaceIn bytes h → read 0 reply_sessions h ≡ Ok x → AreIn bytes h.at x.0
unfolding reply_sessions further_sessions
sessions_held bytes h x s e =
    let mark = of_session 1 in
    let a = bind_ok (read mark auth_response h) _ x e in
    let b = bind_ok (read 0 further_sessions a.0.1) _ x a.2 in
    let same = okay_is {E = Refusal} (listed (a.0.0 ∷ b.0.0) b.0.1) x b.2 in
    let first = session_held bytes mark h a.0 s a.1 in
    let there : IsPlaceIn bytes a.0.1 = stands_behind bytes mark auth_response h a.0.1 a.0.0 s a.1 in
    let rest = more_held bytes 2 [] a.0.1 b.0 there b.1 in
    let others : AreIn bytes (behind h.at (Some a.0.0)) b.0.0 =
    subst (AreIn bytes (behind h.at (Some a.0.0))) (sym rest.is) (subst (λ (k : ℕ). AreIn bytes k rest.more) first.1 rest.held) in
    subst (λ (p : List AuthReply × Here). AreIn bytes h.at p.0) same (first.0, others)

-- ---- the whole

-- where there are sessions, the size of the parameters stands before these
to_place : (bytes hs : List ℕ) (m : ℕ) (auths : List AuthReply) → AreIn bytes (10 + 4 * length hs + 4 + m) auths → AreIn bytes (place_behind hs auths + m) auths
to_place bytes hs m [] h = tt
to_place bytes hs m (a ∷ auths) h = subst (λ (k : ℕ). AreIn bytes (k + m) (a ∷ auths)) (sym (place_before_sessions hs (a ∷ auths) (omega arith))) h

abbrev cut_at : ℕ → List ℕ → List ℕ → List AuthReply → Here → ReplyCut × Here
cut_at n hs params auths g = (record { code = n; handles = hs; params = params; auths = auths }, g)

abbrev InPlace : List ℕ → ReplyCut × Here → Type 0
InPlace bytes x = AreIn bytes (place x.0 0) x.0.auths

with_held : (bytes : List ℕ) (n : ℕ) (hs : List ℕ) (h : Here) (x : ReplyCut × Here)
    → IsPlaceIn bytes h → h.at ≡ 10 + 4 * length hs → read 0 (raw_with_sessions n hs) h ≡ Ok x → InPlace bytes x
unfolding raw_with_sessions
with_held bytes n hs h x s at e =
    let a = bind_ok (read 0 parameter_size h) _ x e in
    let b = bind_ok (read {r = buffer} 0 (raw a.0.0) a.0.1) _ x a.2 in
    let c = bind_ok (read 0 reply_sessions b.0.1) _ x b.2 in
    let same = okay_is {E = Refusal} (cut_at n hs b.0.0 c.0.0 c.0.1) x c.2 in
    let size = size_place h a.0 a.1 in
    let behind_size : IsPlaceIn bytes a.0.1 = stands_behind bytes 0 parameter_size h a.0.1 a.0.0 s a.1 in
    let params = raw_there bytes 0 a.0.0 a.0.1 b.0.1 b.0.0 behind_size b.1 in
    let behind_params : IsPlaceIn bytes b.0.1 = stands_behind bytes 0 (raw a.0.0) a.0.1 b.0.1 b.0.0 behind_size b.1 in
    let there : b.0.1.at ≡ 10 + 4 * length hs + 4 + length b.0.0 = omega (arith, params.at, at, ap (λ (p : Here). p.at) size.1) in
    let held : AreIn bytes (10 + 4 * length hs + 4 + length b.0.0) c.0.0 =
    subst (λ (k : ℕ). AreIn bytes k c.0.0) there (sessions_held bytes b.0.1 c.0 behind_params c.1) in
    subst (InPlace bytes) same (to_place bytes hs (length b.0.0) c.0.0 held)

without_held : (bytes : List ℕ) (n : ℕ) (hs : List ℕ) (h : Here) (x : ReplyCut × Here) → read 0 (raw_without_sessions n hs) h ≡ Ok x → InPlace bytes x
unfolding raw_without_sessions
without_held bytes n hs h x e =
    let a = bind_ok (read {r = buffer} 0 remaining h) _ x e in
    let same = okay_is {E = Refusal} (cut_at n hs a.0.0 [] a.0.1) x a.2 in
    subst (InPlace bytes) same tt

either_held : (bytes : List ℕ) (two : Bool) (n : ℕ) (hs : List ℕ) (h : Here) (x : ReplyCut × Here) → IsPlaceIn bytes h → h.at ≡ 10 + 4 * length hs
    → read 0 (either two (raw_with_sessions n hs) (raw_without_sessions n hs)) h ≡ Ok x → InPlace bytes x
either_held bytes true n hs h x s at e = with_held bytes n hs h x s at e
either_held bytes false n hs h x s at e = without_held bytes n hs h x e

abbrev HandlesAt : ℕ → List ℕ × Here → Type 0
HandlesAt n x = x.1.at ≡ n + 4 * length x.0

handles_at : (code : CommandCode) (h : Here) (x : List ℕ × Here) → read 0 (reply_handles code) h ≡ Ok x → HandlesAt h.at x
unfolding session_handle session
handles_at codes.StartAuthSession h x e =
    let a = bind_ok (read (of_handle 1) session h) _ x e in
    let n = number_ok buffer buffer_sound (of_handle 1) 4 (λ left n. if is_session n then Some n else None) (λ n. n) rc_value h a.0 a.1 in
    subst (HandlesAt h.at) (okay_is {E = Refusal} (pair (a.0.0 ∷ []) a.0.1) x a.2) (ap (λ (p : Here). p.at) (sym n.2))
handles_at _ h x e = subst (HandlesAt h.at) (okay_is {E = Refusal} (pair [] h) x e) (omega arith)

code_held : (bytes : List ℕ) (code : CommandCode) (t n : ℕ) (h : Here) (x : ReplyCut × Here)
    → IsPlaceIn bytes h → h.at ≡ 10 → read 0 (cut_behind_code code t n) h ≡ Ok x → InPlace bytes x
code_held bytes code t n h x s ten e = go (n == 0) e
  where
    go : (done : Bool) → read 0 (either done (Form.field (λ c. c.handles) (reply_handles code) (λ hs. either (t == 0x8002)
        (raw_with_sessions n hs) (raw_without_sessions n hs))) (Form.done (cut_at n [] [] [] h).0)) h ≡ Ok x → InPlace bytes x
    go true e =
        let a = bind_ok (read 0 (reply_handles code) h) _ x e in
        let there : IsPlaceIn bytes a.0.1 = stands_behind bytes 0 (reply_handles code) h a.0.1 a.0.0 s a.1 in
        either_held bytes (t == 0x8002) n a.0.0 a.0.1 x there (handles_at code h a.0 a.1 ∙ ap (λ (k : ℕ). k + 4 * length a.0.0) ten) a.2
    go false e = subst (InPlace bytes) (okay_is {E = Refusal} (cut_at n [] [] [] h) x e) tt

in_place : (code : CommandCode) (bytes : List ℕ) (c : ReplyCut) → read_all (reply_cut code) bytes ≡ Ok c → AreIn bytes (place c 0) c.auths
unfolding reply_cut
in_place code bytes c e =
    let all = bind_ok (read 0 (reply_cut code) (at_start bytes) >>= finish buffer) (λ x. okay {E = Refusal} x.0) c e in
    let whole = bind_ok (read 0 (reply_cut code) (at_start bytes)) (finish buffer) all.0 all.1 in
    let value : whole.0.0 ≡ c = ap (λ (z : ReplyCut × Here). z.0) (finished whole.0 all.0 whole.2) ∙ okay_is {E = Refusal} all.0.0 c all.2 in
    let f = bind_ok (read 0 response_front (at_start bytes)) _ whole.0 whole.1 in
    let n = bind_ok (read 0 (response_code f.0.0.0) f.0.1) _ whole.0 f.2 in
    let front : IsPlaceIn bytes f.0.1 = stands_behind bytes 0 response_front (at_start bytes) f.0.1 f.0.0 (stands_first bytes) f.1 in
    let there : IsPlaceIn bytes n.0.1 = stands_behind bytes 0 (response_code f.0.0.0) f.0.1 n.0.1 n.0.0 front n.1 in
    subst (λ (z : ReplyCut). AreIn bytes (place z 0) z.auths) value (code_held bytes code f.0.0.0 n.0.0 n.0.1 whole.0 there
    (ap (λ (p : Here). p.at) (code_place f.0.0.0 f.0.1 n.0 n.1 ∙ ap (past 4) (front_place (at_start bytes) f.0 f.1))) n.2)

pub holds_parts : (code : CommandCode) (bytes : List ℕ) (c : ReplyCut) → Spells (reply_cut code) c bytes → HasItsParams bytes c → HoldsParts bytes c
holds_parts code bytes c s params =
    let held = first_three (HoldsSession bytes) behind
    (λ n. tt) (place c 0) c.auths (in_place code bytes c (spells_read buffer buffer_sound (reply_cut code) bytes c s)) in
    (held.0, held.1, held.2, sym params)
