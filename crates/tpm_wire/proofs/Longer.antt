-- Reading the beginning of longer bytes gives what reading all of them gives, where a layout takes so many bytes at most.
use Rattle.std.proofs.Common.{◌≡◌, ℕ, zero, suc, ◌+◌, ◌-◌, ◌*◌, ◌≤◌, Bool, true, false, cond, eqb, leb, List, [], ◌∷◌}
use Rattle.std.proofs.Common.{◌++◌, length, take, Option, Some, None, Result, Ok, Err, refl, sym, ap, ◌∙◌, arith}
use Rattle.std.proofs.lemmas.Bool.{leb-true, and_parts}
use Rattle.std.proofs.lemmas.List.{length-append, length-drop, take-append-le, drop-append-le}
use Rattle.std.proofs.Math.Nat.{mul-le-mul_right}
use Rattle.std.specs.Prelude.{◌&&◌}
use Rattle.tpm_wire.specs.Rules.{Rules, IsSound}
use Rattle.tpm_wire.specs.Token.{number_of, Here, past, or_fault}
use Rattle.tpm_wire.specs.Layout.{Form, raw}
use Rattle.tpm_wire.specs.Reading.{read, unless, found, refuse, entries, ◌>>=◌}
use Rattle.tpm_wire.specs.Longer.{with_more, IsReadOn}
use Rattle.tpm_wire.specs.inner.Longer.{IsAlike}
use Rattle.tpm_wire.specs.Buffers.{buffer, Layout, number_in}
use Rattle.tpm_wire.specs.ResponseCodes.{rc_size}
use Rattle.tpm_wire.specs.Spelling.{spelling}
use Rattle.tpm_wire.specs.Structures.{sized_bytes, sized, counted}
use Rattle.tpm_wire.proofs.Agreement.{ok, ok_is, bind_ok, test_end, unless_ok, was_found, number_ok}
use Rattle.tpm_wire.proofs.Buffers.{buffer_sound, buffer_roomy}

-- the same, read of longer bytes
abbrev pub longer : {A E : Type 0} → List ℕ → Result (A × Here) E → Result (A × Here) E
longer more (Ok x) = Ok (x.0, with_more more x.1)
longer more (Err e) = Err e

abbrev ok_at : {A E : Type 0} → A → ℕ → List ℕ → Result (A × Here) E
ok_at x at rest = Ok (x, record { rest = rest; at = at })

-- It takes k bytes at most, and with k bytes there its fault is the same whatever comes behind them.
pub record TakesAtMost {r : Rules} {A : Type 0} (k : ℕ) (l : Form r A) : Type 0 where
  pub same : (m : r.Mark) (h : Here) (more : List ℕ) (x : A × Here) → read m l h ≡ Ok x → read m l (with_more more h) ≡ Ok (x.0, with_more more x.1)
  pub fault : (m : r.Mark) (h : Here) (more : List ℕ) (e : r.Answer) → k ≤ length h.rest → read m l h ≡ Err e → read m l (with_more more h) ≡ Err e
  pub most : (m : r.Mark) (h : Here) (x : A × Here) → read m l h ≡ Ok x → length h.rest ≤ length x.1.rest + k

pub at_most_more : {r : Rules} {A : Type 0} (j k : ℕ) (l : Form r A) → j ≤ k → TakesAtMost j l → TakesAtMost k l
at_most_more j k l le t = record {
  same = t.same;
  fault = λ m h more e room. t.fault m h more e (omega (arith, le, room));
  most = λ m h x is. omega (arith, le, t.most m h x is);
}

-- ---- tokens and areas

unless_longer : {A : Type 0} (r : Rules) (o : Option r.Fault) (m : r.Mark) (h : Here) (more : List ℕ)
    (a b : Result (A × Here) r.Answer)
    → b ≡ longer more a → unless r o m (with_more more h) b ≡ longer more (unless r o m h a)
unless_longer r (Some f) m h more a b is = refl
unless_longer r None m h more a b is = is

found_longer : {A : Type 0} (r : Rules) (p : Result A r.Fault) (n : ℕ) (m : r.Mark) (h : Here) (more : List ℕ)
    → n ≤ length h.rest → found r p n m (with_more more h) ≡ longer more (found r p n m h)
found_longer r (Err f) n m h more le = refl
found_longer r (Ok x) n m h more le = ap (ok_at x (h.at + n)) (drop-append-le n h.rest more le)

-- what is made of the bytes of an area
abbrev closed : {A : Type 0} → (r : Rules) → r.Mark → r.Fault → Here → A × Here → Result (A × Here) r.Answer
closed r m fault next x = cond (eqb (length x.1.rest) 0) (ok (x.0, next)) (refuse r m fault x.1)

abbrev inside : {r : Rules} {A : Type 0} → r.Mark → ℕ → r.Fault → Form r A → Here → Result (A × Here) r.Answer
inside {r = r} m n fault l h = read m l (record { rest = take n h.rest; at = h.at }) >>= closed r m fault (past n h)

text_longer : {A : Type 0} (r : Rules) (judge : List ℕ → Result A r.Fault) (n : ℕ) (m : r.Mark) (h : Here) (more : List ℕ) → n ≤ length h.rest
    → found r (judge (take n (h.rest ++ more))) n m (with_more more h) ≡ longer more (found r (judge (take n h.rest)) n m h)
text_longer r judge n m h more le =
    ap (λ (bytes : List ℕ). found r (judge bytes) n m (with_more more h)) (take-append-le n h.rest more le)
    ∙ found_longer r (judge (take n h.rest)) n m h more le

area_longer : {r : Rules} {A : Type 0} (m : r.Mark) (n : ℕ) (fault : r.Fault) (l : Form r A) (h : Here) (more : List ℕ)
    → n ≤ length h.rest → inside m n fault l (with_more more h) ≡ longer more (inside m n fault l h)
area_longer {r = r} {A = A} m n fault l h more le =
    rw (take-append-le n h.rest more le, drop-append-le n h.rest more le)
    (go (read m l (record { rest = take n h.rest; at = h.at })))
  where
    ended : (b : Bool) (x : A × Here)
        → cond b (ok (x.0, with_more more (past n h))) (refuse r m fault x.1)
        ≡ longer more (cond b (ok (x.0, past n h)) (refuse r m fault x.1))
    ended true x = refl
    ended false x = refl

    go : (o : Result (A × Here) r.Answer) → (o >>= closed r m fault (with_more more (past n h))) ≡ longer more (o >>= closed r m fault (past n h))
    go (Ok x) = ended (eqb (length x.1.rest) 0) x
    go (Err e) = refl

area_ends : {r : Rules} {A : Type 0} (m : r.Mark) (n : ℕ) (fault : r.Fault) (l : Form r A) (h : Here) (x : A × Here)
    → inside m n fault l h ≡ Ok x → past n h ≡ x.1
area_ends {r = r} {A = A} m n fault l h x e =
    let b = bind_ok (read m l (record { rest = take n h.rest; at = h.at })) (closed r m fault (past n h)) x e in
    ap (λ (y : A × Here). y.1) (test_end (eqb (length b.0.1.rest) 0) (b.0.0, past n h) _ x b.2).1

there : (n : ℕ) (h : Here) (more : List ℕ) → n ≤ length h.rest → n ≤ length (h.rest ++ more)
there n h more le = omega (arith, le, length-append h.rest more)

module _ (r : Rules) (sound : IsSound r) (alike : IsAlike r) where
  -- n bytes, of which something is made that does not depend on what is left
  taken_at_most : {A : Type 0} (n : ℕ) (l : Form r A) (made : r.Mark → Here → Result (A × Here) r.Answer)
      → ((m : r.Mark) (h : Here) → read m l h ≡ unless r (r.lacks m h.at n (length h.rest)) m h (made m h))
      → ((m : r.Mark) (h : Here) (more : List ℕ) → n ≤ length h.rest → made m (with_more more h) ≡ longer more (made m h))
      → ((m : r.Mark) (h : Here) (x : A × Here) → made m h ≡ Ok x → past n h ≡ x.1) → TakesAtMost n l
  taken_at_most {A = A} n l made is flat ends = record {
    same = λ m h more x e.
        let t = unless_ok r (r.lacks m h.at n (length h.rest)) m h (made m h) x (sym (is m h) ∙ e) in
        both m h more (sound m h.at n (length h.rest) t.0) ∙ ap (longer more) e;
    fault = λ m h more e room bad. both m h more room ∙ ap (longer more) bad;
    most = λ m h x e.
        let t = unless_ok r (r.lacks m h.at n (length h.rest)) m h (made m h) x (sym (is m h) ∙ e) in
        omega (arith, length-drop n h.rest, ap (λ (g : Here). length g.rest) (ends m h x t.1));
  }
    where
      both : (m : r.Mark) (h : Here) (more : List ℕ) → n ≤ length h.rest → read m l (with_more more h) ≡ longer more (read m l h)
      both m h more le =
          is m (with_more more h)
          ∙ ap (λ (o : Option r.Fault). unless r o m (with_more more h) (made m (with_more more h)))
          (alike m h.at n (length h.rest) (length (h.rest ++ more)) le (there n h more le))
          ∙ unless_longer r (r.lacks m h.at n (length h.rest)) m h more (made m h) (made m (with_more more h)) (flat m h more le)
          ∙ ap (longer more) (sym (is m h))

  pub text_at_most : {A : Type 0} (n : ℕ) (judge : List ℕ → Result A r.Fault) (text_for : A → List ℕ) → TakesAtMost {r = r} n (Form.text n judge text_for)
  text_at_most n judge text_for =
      taken_at_most n (Form.text n judge text_for) (λ m h. found r (judge (take n h.rest)) n m h) (λ m h. refl)
      (λ m h. text_longer r judge n m h) (λ m h x e. (was_found r (judge (take n h.rest)) n m h x e).1)

  -- an area, which is the same whatever is behind it
  pub area_at_most : {A : Type 0} (n : ℕ) (fault : r.Fault) (l : Form r A) → TakesAtMost n (Form.area n fault l)
  area_at_most n fault l =
      taken_at_most n (Form.area n fault l) (λ m h. inside m n fault l h) (λ m h. refl)
      (λ m h. area_longer m n fault l h) (λ m h. area_ends m n fault l h)

-- ---- what is made of tokens

pub at_most_done : {r : Rules} {A : Type 0} (x : A) → TakesAtMost {r = r} 0 (Form.done x)
at_most_done {A = A} x = record {
  same = λ m h more y e. ap (longer more) e;
  fault = λ m h more e room is. absurd cc;
  most = λ m h y e. omega (arith, ap (λ (z : A × Here). length z.1.rest) (ok_is (x, h) y e));
}

then_same : {A B E : Type 0} (o p : Result (B × Here) E) (f : B × Here → Result (A × Here) E) (more : List ℕ) (x : A × Here)
    → ((y : B × Here) → o ≡ Ok y → p ≡ Ok (y.0, with_more more y.1))
    → ((y : B × Here) → o ≡ Ok y → f y ≡ Ok x → f (y.0, with_more more y.1) ≡ Ok (x.0, with_more more x.1))
    → (o >>= f) ≡ Ok x → (p >>= f) ≡ Ok (x.0, with_more more x.1)
then_same (Ok y) p f more x one two e = rw (one y refl) (two y refl e)
then_same (Err d) p f more x one two e = absurd cc

pub then_fault : {A B E : Type 0} (o p : Result (B × Here) E) (f : B × Here → Result (A × Here) E) (more : List ℕ) (e : E)
    → ((y : B × Here) → o ≡ Ok y → p ≡ Ok (y.0, with_more more y.1)) → ((d : E) → o ≡ Err d → p ≡ Err d)
    → ((y : B × Here) → o ≡ Ok y → f y ≡ Err e → f (y.0, with_more more y.1) ≡ Err e)
    → (o >>= f) ≡ Err e → (p >>= f) ≡ Err e
then_fault (Ok y) p f more e one bad two is = rw (one y refl) (two y refl is)
then_fault (Err d) p f more e one bad two is = rw (bad d refl) is

-- a part, of which j bytes are enough and which takes i at most, and what follows it
pub at_most_narrow : {r : Rules} {A B : Type 0} (i j k : ℕ) (get : A → B) (l : Form r B) (f : B → Form r A) → j ≤ i + k → TakesAtMost j l
    → ((m : r.Mark) (h : Here) (x : B × Here) → read m l h ≡ Ok x → length h.rest ≤ length x.1.rest + i)
    → ((m : r.Mark) (h : Here) (y : B × Here) → read m l h ≡ Ok y → TakesAtMost k (f y.0)) → TakesAtMost (i + k) (Form.field get l f)
at_most_narrow i j k get l f le one most two = record {
  same = λ m h more x e.
      then_same (read m l h) (read m l (with_more more h)) (λ y. read m (f y.0) y.1) more x
      (λ y is. one.same m h more y is) (λ y is. (two m h y is).same m y.1 more x) e;
  fault = λ m h more e room is.
      then_fault (read m l h) (read m l (with_more more h)) (λ y. read m (f y.0) y.1) more e (λ y is. one.same m h more y is)
      (λ d bad. one.fault m h more d (omega (arith, le, room)) bad)
      (λ y is. (two m h y is).fault m y.1 more e (omega (arith, room, most m h y is))) is;
  most = λ m h x e.
      let b = bind_ok (read m l h) (λ y. read m (f y.0) y.1) x e in
      omega (arith, most m h b.0 b.1, (two m h b.0 b.1).most m b.0.1 x b.2);
}

pub at_most_field : {r : Rules} {A B : Type 0} (j k : ℕ) (get : A → B) (l : Form r B) (f : B → Form r A) → TakesAtMost j l
    → ((m : r.Mark) (h : Here) (y : B × Here) → read m l h ≡ Ok y → TakesAtMost k (f y.0)) → TakesAtMost (j + k) (Form.field get l f)
at_most_field j k get l f one two = at_most_narrow j j k get l f (omega arith) one one.most two

pub at_most_marked : {r : Rules} {A : Type 0} (k : ℕ) (n : r.Mark) (l : Form r A) → TakesAtMost k l → TakesAtMost k (Form.marked n l)
at_most_marked k n l t = record {
  same = λ m. t.same n;
  fault = λ m. t.fault n;
  most = λ m. t.most n;
}

-- so many entries, that many and no fewer
pub entries_same : {r : Rules} {A : Type 0} (m : r.Mark) (l : List A → Form r A)
    → ((before : List A) (h : Here) (more : List ℕ) (x : A × Here) → read m (l before) h ≡ Ok x
    → read m (l before) (with_more more h) ≡ Ok (x.0, with_more more x.1))
    → (n : ℕ) (before : List A) (h : Here) (more : List ℕ) (x : List A × Here)
    → entries n before false (λ b. read m (l b)) h ≡ Ok x → entries n before false (λ b. read m (l b)) (with_more more h) ≡ Ok (x.0, with_more more x.1)
entries_same m l one zero before h more x e = ap (longer more) e
entries_same m l one (suc n) before h more x e =
    then_same (read m (l before) h) (read m (l before) (with_more more h))
    (λ y. entries n (before ++ y.0 ∷ []) false (λ b. read m (l b)) y.1) more x (λ y is. one before h more y is)
    (λ y is. entries_same m l one n (before ++ y.0 ∷ []) y.1 more x) e

pub at_most_list : {r : Rules} {A : Type 0} (n k : ℕ) (l : List A → Form r A)
    → ((before : List A) → TakesAtMost k (l before)) → TakesAtMost (n * k) (Form.list n false l)
at_most_list {r = r} {A = A} n k l one = record {
  same = λ m. entries_same m l (λ before. (one before).same m) n [];
  fault = λ m. all_fault m n [];
  most = λ m. all_most m n [];
}
  where
    all_most : (m : r.Mark) (n : ℕ) (before : List A) (h : Here) (x : List A × Here)
        → entries n before false (λ b. read m (l b)) h ≡ Ok x → length h.rest ≤ length x.1.rest + n * k
    all_most m zero before h x e = omega (arith, ap (λ (z : List A × Here). length z.1.rest) (ok_is (before, h) x e))
    all_most m (suc n) before h x e =
        let a = bind_ok (read m (l before) h) (λ y. entries n (before ++ y.0 ∷ []) false (λ b. read m (l b)) y.1) x e in
        omega (arith, (one before).most m h a.0 a.1, all_most m n (before ++ a.0.0 ∷ []) a.0.1 x a.2)

    all_fault : (m : r.Mark) (n : ℕ) (before : List A) (h : Here) (more : List ℕ) (e : r.Answer)
        → n * k ≤ length h.rest → entries n before false (λ b. read m (l b)) h ≡ Err e → entries n before false (λ b. read m (l b)) (with_more more h) ≡ Err e
    all_fault m zero before h more e room is = absurd cc
    all_fault m (suc n) before h more e room is =
        then_fault (read m (l before) h) (read m (l before) (with_more more h))
        (λ y. entries n (before ++ y.0 ∷ []) false (λ b. read m (l b)) y.1) more e
        (λ y at. (one before).same m h more y at)
        (λ d bad. (one before).fault m h more d (omega (arith, room)) bad)
        (λ y at. all_fault m n (before ++ y.0 ∷ []) y.1 more e (omega (arith, room, (one before).most m h y at))) is

-- ---- layouts that are read on

-- No part of it asks how many bytes are left, unless it is an area's, which has an end of its own.
abbrev pub IsPlain : {r : Rules} {A : Type 0} → Form r A → Type 0
IsPlain (Form.done x) = Unit {0}
IsPlain (Form.number width meaning number_for fault) = (left more n : ℕ) → meaning left n ≡ meaning more n
IsPlain (Form.text n judge text_for) = Unit {0}
IsPlain (Form.field {B = B} get l f) = IsPlain l × ((y : B) → IsPlain (f y))
IsPlain (Form.area n fault l) = Unit {0}
IsPlain (Form.list {A = A} most stops l) = (stops ≡ false) × ((before : List A) → IsPlain (l before))
IsPlain (Form.by_left f) = ⊥
IsPlain (Form.marked n l) = ⊥

-- Under one mark, where more bytes leave a token's want of bytes as it is, if that is final.
module _ (r : Rules) (sound : IsSound r) (alike : IsAlike r) (m : r.Mark) (IsFinal : r.Answer → Type 0)
    (final : (fault : r.Fault) (at n left more : ℕ) → left ≤ more → IsFinal (r.answer m fault at)
    → r.lacks m at n left ≡ Some fault → r.lacks m at n more ≡ Some fault) where
  longer_on : {A : Type 0} (more : List ℕ) (a b : Result (A × Here) r.Answer) → b ≡ longer more a → IsReadOn IsFinal more a b
  longer_on more (Ok x) b is = is
  longer_on more (Err e) b is = λ last. is

  token_on : {A : Type 0} (n : ℕ) (h : Here) (more : List ℕ) (a b : Result (A × Here) r.Answer) → (n ≤ length h.rest → b ≡ longer more a)
      → IsReadOn IsFinal more (unless r (r.lacks m h.at n (length h.rest)) m h a) (unless r (r.lacks m h.at n (length (h.rest ++ more))) m (with_more more h) b)
  token_on n h more a b same = go (r.lacks m h.at n (length h.rest)) refl
    where
      go : (o : Option r.Fault) → r.lacks m h.at n (length h.rest) ≡ o
          → IsReadOn IsFinal more (unless r o m h a)
          (unless r (r.lacks m h.at n (length (h.rest ++ more))) m (with_more more h) b)
      go None e =
          let le = sound m h.at n (length h.rest) e in
          rw (alike m h.at n (length h.rest) (length (h.rest ++ more)) le (there n h more le) ∙ e) (longer_on more a b (same le))
      go (Some f) e = λ last. rw (final f h.at n (length h.rest) (length (h.rest ++ more)) (omega (arith, length-append h.rest more)) last e) refl

  then_on : {A B : Type 0} (more : List ℕ) (f : B × Here → Result (A × Here) r.Answer) (a b : Result (B × Here) r.Answer) → IsReadOn IsFinal more a b
      → ((y : B × Here) → IsReadOn IsFinal more (f y) (f (y.0, with_more more y.1))) → IsReadOn IsFinal more (a >>= f) (b >>= f)
  then_on more f (Ok y) b one two = rw one (two y)
  then_on more f (Err e) b one two = λ last. rw (one last) refl

  entries_on : {A : Type 0} (rd : List A → Here → Result (A × Here) r.Answer)
      → ((before : List A) (h : Here) (more : List ℕ)
      → IsReadOn IsFinal more (rd before h) (rd before (with_more more h)))
      → (n : ℕ) (before : List A) (h : Here) (more : List ℕ)
      → IsReadOn IsFinal more (entries n before false rd h) (entries n before false rd (with_more more h))
  entries_on rd one zero before h more = refl
  entries_on rd one (suc n) before h more =
      then_on more (λ y. entries n (before ++ y.0 ∷ []) false rd y.1) (rd before h) (rd before (with_more more h))
      (one before h more) (λ y. entries_on rd one n (before ++ y.0 ∷ []) y.1 more)

  pub plain_on : {A : Type 0} (l : Form r A) → IsPlain l → (h : Here) (more : List ℕ) → IsReadOn IsFinal more (read m l h) (read m l (with_more more h))
  plain_on (Form.done x) p h more = refl
  plain_on {A = A} (Form.number width meaning number_for fault) p h more =
      token_on width h more (found r (or_fault (meaning (length h.rest - width) (number_of (take width h.rest))) fault) width m h) _
      (λ le.
      ap (λ (o : Option A). found r (or_fault o fault) width m (with_more more h))
      (p (length (h.rest ++ more) - width) (length h.rest - width) (number_of (take width (h.rest ++ more))))
      ∙ text_longer r (λ bytes. or_fault (meaning (length h.rest - width) (number_of bytes)) fault) width m h more le)
  plain_on (Form.text n judge text_for) p h more =
      token_on n h more (found r (judge (take n h.rest)) n m h)
      (found r (judge (take n (h.rest ++ more))) n m (with_more more h)) (text_longer r judge n m h more)
  plain_on (Form.field get l f) p h more =
      then_on more (λ y. read m (f y.0) y.1) (read m l h) (read m l (with_more more h)) (plain_on l p.0 h more)
      (λ y. plain_on (f y.0) (p.1 y.0) y.1 more)
  plain_on (Form.area n fault l) p h more = token_on n h more (inside m n fault l h) (inside m n fault l (with_more more h)) (area_longer m n fault l h more)
  plain_on (Form.list most stops l) p h more =
      rw p.0
      (entries_on (λ before. read m (l before)) (λ before h more. plain_on (l before) (p.1 before) h more) most []
      h more)
  plain_on (Form.by_left f) p h more = absurd p
  plain_on (Form.marked n l) p h more = absurd p

-- ---- buffers

buffer_alike : IsAlike buffer
buffer_alike m at n left more le wide = buffer_roomy m at n more wide ∙ sym (buffer_roomy m at n left le)

pub at_most_number : {A : Type 0} (width : ℕ) (meaning : ℕ → Option A) (number_for : A → ℕ) (fault : ℕ)
    → TakesAtMost {r = buffer} width (Form.number width (λ left. meaning) number_for fault)
at_most_number {A = A} width meaning number_for fault =
    taken_at_most buffer buffer_sound buffer_alike width (Form.number width (λ left. meaning) number_for fault)
    (λ m h. found buffer (of_bytes (take width h.rest)) width m h) (λ m h. refl)
    (λ m h. text_longer buffer of_bytes width m h) (λ m h x e. (was_found buffer (of_bytes (take width h.rest)) width m h x e).1)
  where
    of_bytes : List ℕ → Result A ℕ
    of_bytes bytes = or_fault (meaning (number_of bytes)) fault

pub at_most_text : {A : Type 0} (n : ℕ) (judge : List ℕ → Result A ℕ) (text_for : A → List ℕ) → TakesAtMost {r = buffer} n (Form.text n judge text_for)
at_most_text n judge text_for = text_at_most buffer buffer_sound buffer_alike n judge text_for

judged : (b : Bool) (n x code : ℕ) → or_fault {F = ℕ} (cond b (Some n) None) code ≡ Ok x → (b ≡ true) × (n ≡ x)
judged true n x code e = (refl, cc)
judged false n x code e = absurd cc

-- a number that was read is in its set
pub in_set : (width : ℕ) (set : ℕ → Bool) (code m : ℕ) (h : Here) (y : ℕ × Here) → read m (number_in width set code) h ≡ Ok y → set y.0 ≡ true
in_set width set code m h y e =
    let n = number_ok buffer buffer_sound m width (λ left n. cond (set n) (Some n) None) (λ n. n) code h y e in
    let j = judged (set (number_of (take width h.rest))) (number_of (take width h.rest)) y.0 code n.1 in
    ap set (sym j.1) ∙ j.0

pub at_most_number_in : (width : ℕ) (set : ℕ → Bool) (code : ℕ) → TakesAtMost width (number_in width set code)
at_most_number_in width set code = at_most_number width (λ n. cond (set n) (Some n) None) (λ n. n) code

pub at_most_sized_bytes : (n : ℕ) → TakesAtMost (2 + n) (sized_bytes n)
unfolding sized_bytes
at_most_sized_bytes n =
    at_most_field 2 n length (number_in 2 (λ k. leb k n) rc_size) raw (at_most_number_in 2 (λ k. leb k n) rc_size)
    (λ m h y is.
    at_most_more y.0 n (raw y.0) (leb-true y.0 n (in_set 2 (λ k. leb k n) rc_size m h y is))
    (at_most_text y.0 (λ bytes. Ok bytes) (λ bytes. bytes)))

pub at_most_sized : {A : Type 0} (n : ℕ) (l : Layout A) → TakesAtMost (2 + n) (sized n l)
unfolding sized
at_most_sized n l =
    at_most_field 2 n (λ x. length (spelling l x)) (number_in 2 (λ k. leb k n) rc_size) (λ k. Form.area k rc_size l)
    (at_most_number_in 2 (λ k. leb k n) rc_size)
    (λ m h y is.
    at_most_more y.0 n (Form.area y.0 rc_size l) (leb-true y.0 n (in_set 2 (λ k. leb k n) rc_size m h y is))
    (area_at_most buffer buffer_sound buffer_alike y.0 rc_size l))

pub at_most_counted : {A : Type 0} (least most k : ℕ) (l : Layout A) → TakesAtMost k l → TakesAtMost (4 + most * k) (counted least most l)
unfolding counted
at_most_counted least most k l t =
    at_most_field 4 (most * k) length (number_in 4 (λ n. leb least n && leb n most) rc_size)
    (λ n. Form.list n false (λ _. l)) (at_most_number_in 4 (λ n. leb least n && leb n most) rc_size)
    (λ m h y is.
    let le : y.0 ≤ most = leb-true y.0 most (and_parts _ _ (in_set 4 (λ n. leb least n && leb n most) rc_size m h y is)).1 in
    at_most_more (y.0 * k) (most * k) (Form.list y.0 false (λ _. l)) (mul-le-mul_right k le) (at_most_list y.0 k (λ _. l) (λ before. t)))
