-- A response that is read, is read with its parameters as they came too.
use Rattle.std.proofs.Common.{◌≡◌, ℕ, Bool, true, false, cond, eqb, List, [], length, take, drop, Option, Some, None}
use Rattle.std.proofs.Common.{Result, Ok, Err, refl, sym, subst, ap, ◌∙◌, arith}
use Rattle.std.proofs.lemmas.Bool.{eqb-true}
use Rattle.std.proofs.lemmas.List.{length-drop, take_all}
use Rattle.tpm_wire.specs.declared.refusal.Refusal.{Refusal}
use Rattle.tpm_wire.specs.Token.{Here, past, at_start}
use Rattle.tpm_wire.specs.Layout.{Form, raw, either}
use Rattle.tpm_wire.specs.Reading.{read, read_all, unless, refuse, ◌>>=◌}
use Rattle.tpm_wire.specs.Buffers.{buffer, Layout, too_few}
use Rattle.tpm_wire.specs.Path.{Spells}
use Rattle.tpm_wire.specs.ResponseCodes.{rc_size}
use Rattle.tpm_wire.proofs.Agreement.{ok_is, bind_ok}
use Rattle.tpm_wire.proofs.Buffers.{buffer_sound, buffer_roomy}
use Rattle.tpm_wire.proofs.Whole.{spells_read, read_spells}
use Rattle.tpm_types.specs.declared.command_code.CommandCode.{CommandCode}
use Rattle.tpm_commands.specs.declared.command.ReplyBody.{ReplyBody}
use Rattle.tpm_commands.specs.declared.response.Response.{Response}
use Rattle.tpm_commands.specs.Replies.{reply_handles, reply_parameters, parameters_of_reply}
use Rattle.tpm_types.proofs.Short.{ok, err}
use Rattle.tpm_commands.proofs.EachCommand.{ends_read, AreRead, are_read, IsBodyOf, bodies}
use Rattle.tpm_commands.specs.declared.response.Response.TheVariants as responses
use Rattle.tpm_buffer.specs.Responses.{response_front, response_code, parameter_size, reply_sessions, with_sessions}
use Rattle.tpm_buffer.specs.Responses.{without_sessions, Reply, reply, reply_of, done_with, behind_code, response}
use Rattle.tpm_buffer.specs.Responses.{ReplyCut, raw_with_sessions, raw_without_sessions, cut_behind_code, reply_cut}
use Rattle.tpm_buffer.specs.Responses.{RespondsTo}
use Rattle.tpm_buffer.specs.ResponseAreas.{IsCutOf}
use Rattle.tpm_buffer.proofs.Places.{alone, all_read}

-- what is read at a place with nothing left behind it, is all that its bytes spell
read_whole : {A : Type 0} (l : Layout A) (h : Here) (x : A × Here) → read 0 l h ≡ Ok x → length x.1.rest ≡ 0 → read_all l h.rest ≡ Ok x.0
read_whole l h x e none =
    let there = alone 0 0 l h x.1 x.0 e in
    let empty : length there.0.rest ≡ 0 = ap length there.2 ∙ none in
    rw (there.1, empty) refl

-- ---- where one reading leaves nothing, the other does, and both values belong together

abbrev Follows : {A B : Type 0} → (A → B → Type 0) → Result (A × Here) Refusal → Result (B × Here) Refusal → Type 0
Follows {A = A} {B = B} R o p = (x : A × Here) → o ≡ Ok x → length x.1.rest ≡ 0 → (y : B × Here) × (p ≡ Ok y) × (length y.1.rest ≡ 0) × R x.0 y.0

never : {A B : Type 0} (R : A → B → Type 0) (e : Refusal) (p : Result (B × Here) Refusal) → Follows R (err {A = A × Here} e) p
never R e p x is none = absurd cc

ends : {A B : Type 0} (R : A → B → Type 0) (a : A) (b : B) (h : Here) → R a b → Follows R (ok (a, h)) (ok (b, h))
ends R a b h both x is none =
    let pairs = ok_is (a, h) x is in
    ((b, h), refl, ap (λ z. length z.1.rest) pairs ∙ none, subst (λ z. R z b) (ap (λ z. z.0) pairs) both)

looser : {A B : Type 0} (R S : A → B → Type 0) (o : Result (A × Here) Refusal) (p : Result (B × Here) Refusal)
    → ((a : A) (b : B) → R a b → S a b) → Follows R o p → Follows S o p
looser R S o p more f x is none =
    let y = f x is none in
    (y.0, y.1, y.2, more x.0 y.0.0 y.3)

-- readings that begin alike
alike : {A B C : Type 0} (R : A → B → Type 0) (r : Result (C × Here) Refusal) (f : C × Here → Result (A × Here) Refusal)
    (g : C × Here → Result (B × Here) Refusal)
    → ((c : C × Here) → r ≡ Ok c → Follows R (f c) (g c)) → Follows R (r >>= f) (r >>= g)
alike R (Ok c) f g next = next c refl
alike R (Err e) f g next = never R e (err e)

-- An area's bytes, whatever is in it, are so many bytes.
area_or_raw : {A B C : Type 0} (R : A → B → Type 0) (n : ℕ) (l : Layout C) (h : Here)
    (f : C × Here → Result (A × Here) Refusal) (g : List ℕ × Here → Result (B × Here) Refusal)
    → ((c : C) → read_all l (take n h.rest) ≡ Ok c → Follows R (f (c, past n h)) (g (take n h.rest, past n h)))
    → Follows R (read 0 (Form.area n rc_size l) h >>= f) (read {r = buffer} 0 (raw n) h >>= g)
area_or_raw {A = A} {B = B} {C = C} R n l h f g next = room (too_few 0 h.at n (length h.rest))
  where
    within : Here
    within = record { rest = take n h.rest; at = h.at }

    end : (c : C × Here) (t : Bool) → read 0 l within ≡ Ok c → eqb (length c.1.rest) 0 ≡ t
        → Follows R (cond t (ok (c.0, past n h)) (refuse buffer 0 rc_size c.1) >>= f) (g (take n h.rest, past n h))
    end c true is none = next c.0 (read_whole l within c is (eqb-true _ _ none))
    end c false is some = never R _ (g (take n h.rest, past n h))

    inside : (o : Result (C × Here) Refusal) → read 0 l within ≡ o
        → Follows R
        ((o >>= λ x. cond (eqb (length x.1.rest) 0) (ok (x.0, past n h)) (refuse buffer 0 rc_size x.1)) >>= f)
        (g (take n h.rest, past n h))
    inside (Ok c) is = end c (eqb (length c.1.rest) 0) is refl
    inside (Err e) is = never R e (g (take n h.rest, past n h))

    room : (t : Option ℕ) → Follows R
        (unless buffer t 0 h (read 0 l within >>= λ x. cond (eqb (length x.1.rest) 0) (ok (x.0, past n h)) (refuse buffer 0 rc_size x.1)) >>= f)
        (unless buffer t 0 h (ok (take n h.rest, past n h)) >>= g)
    room (Some fault) = never R _ _
    room None = inside (read 0 l within) refl

-- ---- a reply and its cut

record SameParts (code : CommandCode) (hs : List ℕ) (n : ℕ) (r : Reply) (c : ReplyCut) : Type 0 where
  code_is : c.code ≡ n
  handles : c.handles ≡ hs
  auths : c.auths ≡ r.auths
  params : read_all (reply_parameters code hs) c.params ≡ Ok r.body

with_same : (code : CommandCode) (hs : List ℕ) (n : ℕ) (h : Here)
    → Follows (SameParts code hs n) (read 0 (with_sessions (reply_parameters code hs)) h)
    (read 0 (raw_with_sessions n hs) h)
unfolding with_sessions raw_with_sessions
with_same code hs n h = alike (SameParts code hs n) (read 0 parameter_size h) _ _ (λ s _.
    area_or_raw (SameParts code hs n) s.0 (reply_parameters code hs) s.1 _ _ (λ b is.
    alike (SameParts code hs n) (read 0 reply_sessions (past s.0 s.1)) _ _ (λ a _.
    ends (SameParts code hs n) _ _ a.1 (record { code_is = refl; handles = refl; auths = refl; params = is }))))

abbrev only : ReplyBody → Reply
only body = record { body = body; auths = [] }

-- What is left is taken.
without_same : (code : CommandCode) (hs : List ℕ) (n : ℕ) (h : Here)
    → Follows (SameParts code hs n) (read 0 (without_sessions (reply_parameters code hs)) h)
    (read 0 (raw_without_sessions n hs) h)
unfolding without_sessions raw_without_sessions
without_same code hs n h x is none =
    let k = length h.rest in
    let empty : length (drop k h.rest) ≡ 0 = omega (arith, length-drop k h.rest) in
    let all : take k h.rest ≡ h.rest = take_all k h.rest (omega arith) in
    let b = bind_ok (read 0 (reply_parameters code hs) h) (λ b. ok (only b.0, b.1)) x is in
    let same = ok_is (only b.0.0, b.0.1) x b.2 in
    let whole = read_whole (reply_parameters code hs) h b.0 b.1 (ap (λ z. length z.1.rest) same ∙ none) in (
      (record { code = n; handles = hs; params = take k h.rest; auths = [] }, past k h),
      rw (buffer_roomy 0 h.at k k (omega arith)) refl,
      empty,
      record {
        code_is = refl;
        handles = refl;
        auths = ap (λ z. z.0.auths) same;
        params = ap (read_all (reply_parameters code hs)) all ∙ whole ∙ ap (λ z. ok z.0.body) same;
      },
    )

behind_same : (code : CommandCode) (n : ℕ) (hs : List ℕ) (h : Here) (two : Bool)
    → Follows (SameParts code hs n)
    (read 0 (either two (with_sessions (reply_parameters code hs)) (without_sessions (reply_parameters code hs))) h)
    (read 0 (either two (raw_with_sessions n hs) (raw_without_sessions n hs)) h)
behind_same code n hs h true = with_same code hs n h
behind_same code n hs h false = without_same code hs n h

-- ---- a response and its cut

-- The same of a reply to the command with its handle.
record Belongs (code : CommandCode) (n : ℕ) (r : Reply) (c : ReplyCut) : Type 0 where
  hs : List ℕ
  is_body : IsBodyOf code hs r.body
  parts : SameParts code hs n r c

belongs : (code : CommandCode) (n : ℕ) (hs : List ℕ) → AreRead code hs → (r : Reply) (c : ReplyCut) → SameParts code hs n r c → Belongs code n r c
belongs code n hs are r c parts =
    let read = all_read (reply_parameters code hs) c.params r.body parts.params in
    record {
      hs = hs;
      is_body =
          ends_read (IsBodyOf code hs) (reply_parameters code hs) 0 (at_start c.params) (r.body, read.0)
          (bodies code hs are) read.1;
      parts = parts;
    }

reply_same : (code : CommandCode) (t n : ℕ) (h : Here)
    → Follows (Belongs code n) (read 0 (reply code t) h)
    (read 0
    (Form.field (λ c. c.handles) (reply_handles code)
    (λ hs. either (eqb t 0x8002) (raw_with_sessions n hs) (raw_without_sessions n hs))) h)
reply_same code t n h = alike (Belongs code n) (read 0 (reply_handles code) h) _ _ (λ hs is.
    looser (SameParts code hs.0 n) (Belongs code n) _ _ (belongs code n hs.0 (are_read code h hs.1 hs.0 is)) (behind_same code n hs.0 hs.1 (eqb t 0x8002)))

-- the two by their parts
its_cut : (code : CommandCode) (n : ℕ) (r : Reply) (c : ReplyCut) → n ≡ 0 → Belongs code n r c → IsCutOf (done_with r) c
its_cut code n r c zero b =
    let same : parameters_of_reply r.body ≡ reply_parameters code b.hs = rw (b.is_body.0, b.is_body.1) refl in
    record {
      code_is = b.parts.code_is ∙ zero;
      handles_are = b.parts.handles ∙ sym b.is_body.1;
      spells_params =
          read_spells buffer buffer_sound (parameters_of_reply r.body) c.params r.body
          (ap (λ (l : Layout ReplyBody). read_all l c.params) same ∙ b.parts.params);
      auths_are = b.parts.auths;
    }

-- The same of a response to this command.
abbrev IsOwnCut : CommandCode → Response → ReplyCut → Type 0
IsOwnCut code r c = IsCutOf r c × RespondsTo code r

code_same : (code : CommandCode) (t n : ℕ) (h : Here) → Follows (IsOwnCut code) (read 0 (behind_code code t n) h) (read 0 (cut_behind_code code t n) h)
code_same code t n h = go (eqb n 0) refl
  where
    go : (zero : Bool) → eqb n 0 ≡ zero
        → Follows (IsOwnCut code)
        (read 0
        (either zero (Form.field reply_of (reply code t) (λ r. Form.done (done_with r)))
        (Form.done (responses.Code n))) h)
        (read 0
        (either zero
        (Form.field (λ c. c.handles) (reply_handles code)
        (λ hs. either (eqb t 0x8002) (raw_with_sessions n hs) (raw_without_sessions n hs)))
        (Form.done (record { code = n; handles = []; params = []; auths = [] }))) h)
    go true zero = λ x is none.
        let done = bind_ok (read 0 (reply code t) h) (λ r. ok (done_with r.0, r.1)) x is in
        let same = ok_is (done_with done.0.0, done.0.1) x done.2 in
        let y = reply_same code t n h done.0 done.1 (ap (λ z. length z.1.rest) same ∙ none) in
        (y.0, y.1, y.2, subst (λ z. IsOwnCut code z y.0.0) (ap (λ z. z.0) same) (its_cut code n done.0.0 y.0.0 (eqb-true n 0 zero) y.3, sym y.3.is_body.0))
    go false some = ends (IsOwnCut code) (responses.Code n) (record { code = n; handles = []; params = []; auths = [] }) h (refl, tt)

has_read : (code : CommandCode) (h : Here) → Follows (IsOwnCut code) (read 0 (response code) h) (read 0 (reply_cut code) h)
unfolding response reply_cut
has_read code h = alike (IsOwnCut code) (read 0 response_front h) _ _ (λ f _.
    alike (IsOwnCut code) (read 0 (response_code f.0.0) f.1) _ _ (λ n _.
    code_same code f.0.0 n.0 n.1))

has_own_areas : (code : CommandCode) (bytes : List ℕ) (r : Response) → Spells (response code) r bytes
    → (c : ReplyCut) × Spells (reply_cut code) c bytes × IsOwnCut code r c
has_own_areas code bytes r s =
    let all = all_read (response code) bytes r (spells_read buffer buffer_sound (response code) bytes r s) in
    let c = has_read code (at_start bytes) (r, all.0) all.1 all.2 in
    (c.0.0, read_spells buffer buffer_sound (reply_cut code) bytes c.0.0 (rw (c.1, c.2) refl), c.3)

pub has_areas : (code : CommandCode) (bytes : List ℕ) (r : Response) → Spells (response code) r bytes
    → (c : ReplyCut) × Spells (reply_cut code) c bytes × IsCutOf r c
has_areas code bytes r s = let x = has_own_areas code bytes r s in (x.0, x.1, x.2.0)

-- The response that bytes spell is one to the command.
pub answers : (code : CommandCode) (bytes : List ℕ) (r : Response) → Spells (response code) r bytes → RespondsTo code r
answers code bytes r s = (has_own_areas code bytes r s).2.1
