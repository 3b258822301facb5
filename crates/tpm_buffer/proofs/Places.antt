-- What is read of bytes is there again: under another number, and from its place alone.
use Rattle.std.proofs.Common.{◌≡◌, ℕ, zero, suc, ◌+◌, ◌-◌, ◌≤◌, Bool, true, false, cond, eqb, List, [], ◌∷◌, ◌++◌}
use Rattle.std.proofs.Common.{length, take, drop, Option, Some, None, Result, Ok, Err, refl, sym, subst, ap, ◌∙◌}
use Rattle.std.proofs.Common.{arith, length-drop}
use Rattle.std.proofs.lemmas.Bool.{eqb-true}
use Rattle.std.proofs.lemmas.List.{drop-drop}
use Rattle.std.specs.Prelude.{◌&&◌}
use Rattle.tpm_wire.specs.declared.refusal.Refusal.{Refusal}
use Rattle.tpm_wire.specs.Token.{number_of, Here, past, at_start, or_fault, spelled_all}
use Rattle.tpm_wire.specs.Layout.{Form, raw}
use Rattle.tpm_wire.specs.Reading.{read, read_all, finish, unless, found, refuse, entries, ◌>>=◌}
use Rattle.tpm_wire.specs.Buffers.{buffer, Layout, Place, too_few}
use Rattle.tpm_wire.specs.inner.Buffers.{later_place}
use Rattle.tpm_wire.proofs.Agreement.{ok_is, bind_ok, test_end, unless_ok, ends_same}
use Rattle.tpm_wire.proofs.Buffers.{buffer_sound}
use Rattle.tpm_wire.proofs.Whole.{reads_its_path}
use Rattle.tpm_wire.proofs.Elsewhere.{read_later, later}
use Rattle.tpm_types.proofs.Short.{ok}
use Rattle.tpm_buffer.specs.inner.ResponseAreas.{IsPlaceIn}

token_mark : {A : Type 0} (o : Option ℕ) (p : Result A ℕ) (n m k : ℕ) (h : Here) (x : A × Here)
    → unless buffer o m h (found buffer p n m h) ≡ Ok x → unless buffer o k h (found buffer p n k h) ≡ Ok x
token_mark (Some f) p n m k h x e = absurd cc
token_mark None (Err f) n m k h x e = absurd cc
token_mark None (Ok y) n m k h x e = e

bind_mark : {A B : Type 0} (o p : Result (A × Here) Refusal) (f g : A × Here → Result (B × Here) Refusal) (x : B × Here)
    → ((y : A × Here) → o ≡ Ok y → p ≡ Ok y) → ((y : A × Here) → f y ≡ Ok x → g y ≡ Ok x)
    → (o >>= f) ≡ Ok x → (p >>= g) ≡ Ok x
bind_mark o p f g x one two e =
    let b = bind_ok o f x e in
    rw (one b.0 b.1) (two b.0 b.2)

each_mark : {A : Type 0} (rd other : List A → Here → Result (A × Here) Refusal)
    → ((before : List A) (h : Here) (x : A × Here) → rd before h ≡ Ok x → other before h ≡ Ok x)
    → (n : ℕ) (before : List A) (stops : Bool) (h : Here) (x : List A × Here) → entries n before stops rd h ≡ Ok x → entries n before stops other h ≡ Ok x
each_mark rd other one zero before stops h x = λ e. e
each_mark {A = A} rd other one (suc n) before stops h x = go (stops && eqb (length h.rest) 0) (λ b g. each_mark rd other one n b stops g x)
  where
    go : (b : Bool) → ((b : List A) (g : Here) → entries n b stops rd g ≡ Ok x → entries n b stops other g ≡ Ok x)
        → cond b (ok (before, h)) (rd before h >>= λ y. entries n (before ++ y.0 ∷ []) stops rd y.1) ≡ Ok x
        → cond b (ok (before, h)) (other before h >>= λ y. entries n (before ++ y.0 ∷ []) stops other y.1) ≡ Ok x
    go true again e = e
    go false again e = bind_mark (rd before h) (other before h) _ _ x (one before h) (λ y. again (before ++ y.0 ∷ []) y.1) e

end_mark : {A : Type 0} (b : Bool) (m k fault : ℕ) (y : A × Here) (g : Here) (x : A × Here)
    → cond b (ok (y.0, g)) (refuse buffer m fault y.1) ≡ Ok x → cond b (ok (y.0, g)) (refuse buffer k fault y.1) ≡ Ok x
end_mark true m k fault y g x e = e
end_mark false m k fault y g x e = absurd cc

room_mark : {A : Type 0} (o : Option ℕ) (m k : ℕ) (h : Here) (one two : Result A Refusal) (x : A)
    → (one ≡ Ok x → two ≡ Ok x) → unless buffer o m h one ≡ Ok x → unless buffer o k h two ≡ Ok x
room_mark (Some f) m k h one two x same e = absurd cc
room_mark None m k h one two x same e = same e

-- what is read under one number is read under any other
pub any_mark : {A : Type 0} (m k : ℕ) (l : Layout A) (h : Here) (x : A × Here) → read m l h ≡ Ok x → read k l h ≡ Ok x
any_mark m k (Form.done y) h x e = e
any_mark m k (Form.number width meaning number_for fault) h x e =
    token_mark (buffer.lacks m h.at width (length h.rest)) (or_fault (meaning (length h.rest - width) (number_of (take width h.rest))) fault) width m k h x e
any_mark m k (Form.text n judge text_for) h x e = token_mark (buffer.lacks m h.at n (length h.rest)) (judge (take n h.rest)) n m k h x e
any_mark m k (Form.field get l f) h x e = bind_mark (read m l h) (read k l h) _ _ x (any_mark m k l h) (λ y. any_mark m k (f y.0) y.1 x) e
any_mark m k (Form.area n fault l) h x e =
    room_mark (buffer.lacks m h.at n (length h.rest)) m k h _ _ x
    (bind_mark (read m l (record { rest = take n h.rest; at = h.at })) (read k l (record { rest = take n h.rest; at = h.at })) _ _ x
    (any_mark m k l (record { rest = take n h.rest; at = h.at })) (λ y. end_mark (eqb (length y.1.rest) 0) m k fault y (past n h) x)) e
any_mark m k (Form.list most stops l) h x e =
    each_mark (λ before. read m (l before)) (λ before. read k (l before)) (λ before. any_mark m k (l before)) most []
    stops h x e
any_mark m k (Form.by_left f) h x e = any_mark m k (f (length h.rest)) h x e
any_mark m k (Form.marked n l) h x e = e

later_ok : {A : Type 0} (k : ℕ) (o : Result (A × Here) Refusal) (x : A) (g : Here) → later k o ≡ Ok (x, g) → (f : Here) × (o ≡ Ok (x, f)) × (f.rest ≡ g.rest)
later_ok {A = A} k (Ok y) x g e =
    let same = ok_is (y.0, later_place k y.1) (x, g) e in
    (y.1, ap (λ (z : A). ok (z, y.1)) (ap (λ (p : A × Here). p.0) same), ap (λ (p : A × Here). p.1.rest) same)
later_ok k (Err d) x g e = absurd cc

-- what is read at a place is read of its bytes alone
pub alone : {A : Type 0} (m k : ℕ) (l : Layout A) (h g : Here) (x : A) → read m l h ≡ Ok (x, g)
    → (f : Here) × (read k l (at_start h.rest) ≡ Ok (x, f)) × (f.rest ≡ g.rest)
alone m k l h g x e =
    let marked : read k l h ≡ Ok (x, g) = any_mark m k l h (x, g) e in
    let same : read k l (later_place h.at (at_start h.rest)) ≡ read k l h =
    ap (λ n. read k l (let p : Here = record { rest = h.rest; at = n } in p)) (let zero : 0 + h.at ≡ h.at = omega arith in zero) in
    later_ok h.at (read k l (at_start h.rest)) x g (sym (read_later h.at k l (at_start h.rest)) ∙ same ∙ marked)

finished : {A : Type 0} (x y : A × Here) → finish buffer x ≡ Ok y → (length x.1.rest ≡ 0) × (x ≡ y)
finished x y e = let t = test_end (eqb (length x.1.rest) 0) x _ y e in (eqb-true _ _ t.0, t.1)

-- what is read of all bytes leaves none
pub all_read : {A : Type 0} (l : Layout A) (bytes : List ℕ) (x : A) → read_all l bytes ≡ Ok x
    → (h : Here) × (read 0 l (at_start bytes) ≡ Ok (x, h)) × (length h.rest ≡ 0)
all_read l bytes x e =
    let done = bind_ok (read 0 l (at_start bytes) >>= finish buffer) (λ y. ok y.0) x e in
    let whole = bind_ok (read 0 l (at_start bytes)) (finish buffer) done.0 done.1 in
    let last = finished whole.0 done.0 whole.2 in
    (whole.0.1, whole.1 ∙ ap (λ z. ok (z, whole.0.1)) (ap (λ z. z.0) last.1 ∙ ok_is done.0.0 x done.2), last.0)

-- ---- the places on the way through bytes

pub here_is : (g : Here) (rest : List ℕ) (at : ℕ) → g.rest ≡ rest → g.at ≡ at → g ≡ record { rest = rest; at = at }
here_is g rest at e f = rw (← e, ← f) refl

-- what is read leads some bytes further on
pub read_past : {A : Type 0} (m : ℕ) (l : Layout A) (h g : Here) (x : A) → read m l h ≡ Ok (x, g) → (n : ℕ) × (n ≤ length h.rest) × (g ≡ past n h)
read_past m l h g x e =
    let b = ((reads_its_path buffer buffer_sound m l h).value x g).0 e in
    let n = length (spelled_all b.0) in
    let there : g ≡ past n h = b.2 in
    let ends = ends_same buffer buffer_sound m l h (x, g) e in
    (n, omega (arith, ends, ap (λ (p : Here). p.at) there, ap (λ (p : Here). length p.rest) there, length-drop n h.rest), there)

stands_past : (bytes : List ℕ) (h : Here) (n : ℕ) → IsPlaceIn bytes h → n ≤ length h.rest → IsPlaceIn bytes (past n h)
stands_past bytes h n s le = record {
  rest = ap (drop n) s.rest ∙ drop-drop n h.at bytes;
  whole = omega (arith, s.whole, le, length-drop n h.rest);
}

pub stands_behind : {A : Type 0} (bytes : List ℕ) (m : ℕ) (l : Layout A) (h g : Here) (x : A) → IsPlaceIn bytes h → read m l h ≡ Ok (x, g) → IsPlaceIn bytes g
stands_behind bytes m l h g x s e = let p = read_past m l h g x e in rw p.2 (stands_past bytes h p.0 s p.1)

pub stands_first : (bytes : List ℕ) → IsPlaceIn bytes (at_start bytes)
stands_first bytes = record { rest = refl; whole = omega arith }

-- the place of a cursor that was not moved yet
pub stands_new : (bytes : List ℕ) (p : Place) → p ≡ record { here = at_start bytes; number = 0 } → IsPlaceIn bytes p.here
stands_new bytes p new = subst (λ (q : Place). IsPlaceIn bytes q.here) (sym new) (stands_first bytes)

-- so many bytes that were read are those at the place
pub raw_is : (m n : ℕ) (h g : Here) (x : List ℕ) → read {r = buffer} m (raw n) h ≡ Ok (x, g) → x ≡ take n h.rest
raw_is m n h g x e =
    let t = unless_ok buffer (too_few m h.at n (length h.rest)) m h (ok (take n h.rest, past n h)) (x, g) e in
    ap (λ (p : List ℕ × Here). p.0) (sym (ok_is (take n h.rest, past n h) (x, g) t.1))
