-- Reading the same bytes further on in a buffer gives the same, further on.
use Rattle.std.proofs.Common.{◌≡◌, ℕ, zero, suc, ◌+◌, ◌-◌, Bool, true, false, cond, eqb, List, [], ◌∷◌, ◌++◌, length}
use Rattle.std.proofs.Common.{take, Option, Some, None, Result, Ok, Err, refl, ap, arith}
use Rattle.std.specs.Prelude.{◌&&◌}
use Rattle.tpm_wire.specs.declared.refusal.Refusal.{Refusal}
use Rattle.tpm_wire.specs.Token.{number_of, Here, past, or_fault}
use Rattle.tpm_wire.specs.Layout.{Form}
use Rattle.tpm_wire.specs.Reading.{refuse, unless, found, entries, read, ◌>>=◌}
use Rattle.tpm_wire.specs.Buffers.{buffer, Layout, later_refusal}
use Rattle.tpm_wire.specs.inner.Buffers.{later_place}

-- so many bytes further on
abbrev pub later : {A : Type 0} → ℕ → Result (A × Here) Refusal → Result (A × Here) Refusal
later k (Ok x) = Ok (x.0, later_place k x.1)
later k (Err e) = Err (later_refusal k e)

abbrev ok_at : {A : Type 0} → A → List ℕ → ℕ → Result (A × Here) Refusal
ok_at x rest at = Ok (x, record { rest = rest; at = at })

swapped : (a k n : ℕ) → (a + k) + n ≡ (a + n) + k
swapped a k n = omega arith

token_later : {A : Type 0} (o : Option ℕ) (p : Result A ℕ) (n mark k : ℕ) (h : Here)
    → unless buffer o mark (later_place k h) (found buffer p n mark (later_place k h)) ≡ later k (unless buffer o mark h (found buffer p n mark h))
token_later (Some f) p n mark k h = refl
token_later None (Err f) n mark k h = refl
token_later None (Ok x) n mark k h = ap (ok_at x (past n h).rest) (swapped h.at k n)

bind_later : {A B : Type 0} (k : ℕ) (o p : Result (A × Here) Refusal) (f g : A × Here → Result (B × Here) Refusal)
    → p ≡ later k o → ((x : A × Here) → g (x.0, later_place k x.1) ≡ later k (f x)) → (p >>= g) ≡ later k (o >>= f)
bind_later k (Ok x) p f g is each = rw is (each x)
bind_later k (Err e) p f g is each = rw is refl

room_later : {A : Type 0} (o : Option ℕ) (mark k : ℕ) (h : Here) (there here : Result (A × Here) Refusal) → there ≡ later k here
    → unless buffer o mark (later_place k h) there ≡ later k (unless buffer o mark h here)
room_later (Some f) mark k h there here is = refl
room_later None mark k h there here is = is

end_later : {A : Type 0} (b : Bool) (n fault mark k : ℕ) (h : Here) (x : A × Here)
    → cond b (ok_at x.0 (past n h).rest ((h.at + k) + n)) (refuse buffer mark fault (later_place k x.1))
    ≡ later k (cond b (Ok (x.0, past n h)) (refuse buffer mark fault x.1))
end_later true n fault mark k h x = ap (ok_at x.0 (past n h).rest) (swapped h.at k n)
end_later false n fault mark k h x = refl

each_later : {A : Type 0} (k : ℕ) (rd : List A → Here → Result (A × Here) Refusal)
    → ((before : List A) (h : Here) → rd before (later_place k h) ≡ later k (rd before h))
    → (n : ℕ) (before : List A) (stops : Bool) (h : Here) → entries n before stops rd (later_place k h) ≡ later k (entries n before stops rd h)
each_later k rd one zero before stops h = refl
each_later {A = A} k rd one (suc n) before stops h = go (stops && eqb (length h.rest) 0) (λ b g. each_later k rd one n b stops g)
  where
    go : (b : Bool) → ((b : List A) (g : Here) → entries n b stops rd (later_place k g) ≡ later k (entries n b stops rd g))
        → cond b (ok_at before h.rest (h.at + k)) (rd before (later_place k h) >>= λ x. entries n (before ++ x.0 ∷ []) stops rd x.1)
        ≡ later k (cond b (Ok (before, h)) (rd before h >>= λ x. entries n (before ++ x.0 ∷ []) stops rd x.1))
    go true more = refl
    go false more = bind_later k (rd before h) (rd before (later_place k h)) _ _ (one before h) (λ x. more (before ++ x.0 ∷ []) x.1)

pub read_later : {A : Type 0} (k mark : ℕ) (l : Layout A) (h : Here) → read mark l (later_place k h) ≡ later k (read mark l h)
read_later k mark (Form.done x) h = refl
read_later k mark (Form.number width meaning number_for fault) h =
    token_later (buffer.lacks mark h.at width (length h.rest)) (or_fault (meaning (length h.rest - width) (number_of (take width h.rest))) fault) width mark k h
read_later k mark (Form.text n judge text_for) h = token_later (buffer.lacks mark h.at n (length h.rest)) (judge (take n h.rest)) n mark k h
read_later k mark (Form.field get l f) h =
    bind_later k (read mark l h) (read mark l (later_place k h)) _ _ (read_later k mark l h)
    (λ x. read_later k mark (f x.0) x.1)
read_later k mark (Form.area n fault l) h =
    room_later (buffer.lacks mark h.at n (length h.rest)) mark k h _ _
    (bind_later k (read mark l (record { rest = take n h.rest; at = h.at })) (read mark l (record { rest = take n h.rest; at = h.at + k })) _ _
    (read_later k mark l (record { rest = take n h.rest; at = h.at })) (λ x. end_later (eqb (length x.1.rest) 0) n fault mark k h x))
read_later k mark (Form.list most stops l) h = each_later k (λ before. read mark (l before)) (λ before. read_later k mark (l before)) most [] stops h
read_later k mark (Form.by_left f) h = read_later k mark (f (length h.rest)) h
read_later k mark (Form.marked n l) h = read_later k n l h
