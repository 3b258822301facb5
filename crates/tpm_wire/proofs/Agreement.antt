-- Reading a layout is running what it says.
use Rattle.std.proofs.Common.{◌≡◌, ℕ, zero, suc, ◌+◌, ◌-◌, ◌≤◌, Bool, true, false, cond, eqb, List, [], ◌∷◌, ◌++◌}
use Rattle.std.proofs.Common.{length, take, drop, Option, Some, None, Result, Ok, Err, refl, sym, ap, ◌∙◌, append_assoc}
use Rattle.std.proofs.Common.{arith, inl, inr}
use Rattle.std.proofs.lemmas.Bool.{eqb-true, cases_Bool}
use Rattle.std.proofs.lemmas.List.{take_at, take-append-drop, length-take, length-drop, nil_from_length, drop-append-le}
use Rattle.std.specs.Prelude.{◌&&◌}
use Rattle.tpm_wire.specs.Rules.{Rules, IsSound}
use Rattle.tpm_wire.specs.Token.{number_of, Here, past, or_fault}
use Rattle.tpm_wire.specs.Layout.{Form}
use Rattle.tpm_wire.specs.Reading.{refuse, unless, found, entries, read, ◌>>=◌}
use Rattle.tpm_wire.specs.Path.{Next, each, steps}
use Rattle.tpm_wire.proofs.Runs.{meant, run}

abbrev pub ok : {A E : Type 0} → A → Result A E
ok x = Ok x

pub ok_is : {A E : Type 0} (x y : A) → ok {E = E} x ≡ ok y → x ≡ y
ok_is x y e = cc

abbrev pub err : {A E : Type 0} → E → Result A E
err e = Err e

pub err_is : {A E : Type 0} (d e : E) → err {A = A} d ≡ err e → d ≡ e
err_is d e is = cc

pub bind_same : {A B E : Type 0} (r : Result A E) (f g : A → Result B E) → ((x : A) → f x ≡ g x) → (r >>= f) ≡ (r >>= g)
bind_same (Ok x) f g e = e x
bind_same (Err d) f g e = refl

pub bind_assoc : {A B C E : Type 0} (r : Result A E) (f : A → Result B E) (g : B → Result C E) → ((r >>= f) >>= g) ≡ (r >>= (λ x. f x >>= g))
bind_assoc (Ok x) f g = refl
bind_assoc (Err d) f g = refl

bind_known : {A B E : Type 0} (r : Result A E) (f g : A → Result B E) → ((x : A) → r ≡ Ok x → f x ≡ g x) → (r >>= f) ≡ (r >>= g)
bind_known (Ok x) f g e = e x refl
bind_known (Err d) f g e = refl

pub bind_ok : {A B E : Type 0} (r : Result A E) (f : A → Result B E) (y : B) → (r >>= f) ≡ Ok y → (x : A) × (r ≡ Ok x) × (f x ≡ Ok y)
bind_ok (Ok x) f y e = (x, refl, e)
bind_ok (Err d) f y e = absurd cc

-- the place in all of the bytes, where outer follows the area
abbrev whole : List ℕ → Here → Here
whole outer h = record { rest = h.rest ++ outer; at = h.at }

-- what follows a value that was read
abbrev behind : {r : Rules} {A B : Type 0} → (A → ℕ → Next r B) → List ℕ → A × Here → Result (B × Here) r.Answer
behind next outer x = run (next x.0 (length x.1.rest)) (whole outer x.1)

-- where a place lies, seen from the end of its area
abbrev end_of : Here → ℕ
end_of h = h.at + length h.rest

abbrev pair_at : {A : Type 0} → A → Here → A × Here
pair_at x h = (x, h)

abbrev ok_at : {A E : Type 0} → A → Here → Result (A × Here) E
ok_at x h = Ok (x, h)

here_of : {A E : Type 0} (x y : A) (h g : Here) → ok_at {E = E} x h ≡ ok_at y g → h ≡ g
here_of {A = A} x y h g e =
    let pairs : pair_at x h ≡ pair_at y g = cc in
    ap (λ (p : A × Here). p.1) pairs

past_end : (n : ℕ) (h : Here) → n ≤ length h.rest → end_of (past n h) ≡ end_of h
past_end n h le = omega (arith, le, length-drop n h.rest)

pub test_end : {A E : Type 0} (b : Bool) (r : A) (d : E) (y : A) → cond b (Ok r) (Err d) ≡ Ok y → (b ≡ true) × (r ≡ y)
test_end true r d y e = (refl, cc)
test_end false r d y e = absurd cc

pub unless_ok : {A : Type 0} (r : Rules) (o : Option r.Fault) (mark : r.Mark) (h : Here) (next : Result A r.Answer)
    (y : A)
    → unless r o mark h next ≡ Ok y → (o ≡ None) × (next ≡ Ok y)
unless_ok r None mark h next y e = (refl, e)
unless_ok r (Some f) mark h next y e = absurd cc

pub was_found : {A : Type 0} (r : Rules) (o : Result A r.Fault) (n : ℕ) (mark : r.Mark) (h : Here) (x : A × Here)
    → found r o n mark h ≡ Ok x → (o ≡ Ok x.0) × (past n h ≡ x.1)
was_found r (Err f) n mark h x e = absurd cc
was_found r (Ok y) n mark h x e =
    let pairs : pair_at y (past n h) ≡ pair_at x.0 x.1 = cc in
    (ap (λ p. Ok p.0) pairs, ap (λ p. p.1) pairs)

ends_each : {A E : Type 0} (n : ℕ) (before : List A) (stops : Bool) (rd : List A → Here → Result (A × Here) E)
    → ((before : List A) (h : Here) (x : A × Here) → rd before h ≡ Ok x → end_of x.1 ≡ end_of h)
    → (h : Here) (x : List A × Here) → entries n before stops rd h ≡ Ok x → end_of x.1 ≡ end_of h
ends_each zero before stops rd one h x e = ap end_of (sym (here_of before x.0 h x.1 e))
ends_each {A = A} (suc n) before stops rd one h x e = go (stops && eqb (length h.rest) 0) (λ b. ends_each n b stops rd one) e
  where
    go : (b : Bool)
        → ((b : List A) (g : Here) (y : List A × Here) → entries n b stops rd g ≡ Ok y → end_of y.1 ≡ end_of g)
        → cond b (ok_at before h) (rd before h >>= λ x. entries n (before ++ x.0 ∷ []) stops rd x.1) ≡ Ok x
        → end_of x.1 ≡ end_of h
    go true again d = ap end_of (sym (here_of before x.0 h x.1 d))
    go false again d =
        let a = bind_ok (rd before h) (λ x. entries n (before ++ x.0 ∷ []) stops rd x.1) x d in
        again (before ++ a.0.0 ∷ []) a.0.1 x a.2 ∙ one before h a.0 a.1

-- what was a number
pub number_ok : (r : Rules) → IsSound r
    → {A : Type 0} (mark : r.Mark) (width : ℕ) (meaning : ℕ → ℕ → Option A) (number_for : A → ℕ) (fault : r.Fault)
    (h : Here) (x : A × Here)
    → read {r = r} mark (Form.number width meaning number_for fault) h ≡ Ok x
    → (width ≤ length h.rest) × (or_fault (meaning (length h.rest - width) (number_of (take width h.rest))) fault ≡ Ok x.0) × (past width h ≡ x.1)
number_ok r sound mark width meaning number_for fault h x e =
    let t = unless_ok r (r.lacks mark h.at width (length h.rest)) mark h _ x e in
    let f = was_found r (or_fault (meaning (length h.rest - width) (number_of (take width h.rest))) fault) width mark h x t.1 in
    (sound mark h.at width (length h.rest) t.0, f.0, f.1)

-- behind n bytes
moved : {r : Rules} {B : Type 0} (next : ℕ → Next r B) (n : ℕ) (outer : List ℕ) (h : Here) → n ≤ length h.rest
    → run (next (length h.rest - n)) (past n (whole outer h))
    ≡ run (next (length (drop n h.rest))) (whole outer (past n h))
moved next n outer h le = rw (drop-append-le n h.rest outer le, length-drop n h.rest) refl

-- a token of n bytes
text_same : {A R : Type 0} (r : Rules) (o : Option r.Fault) (p : Result A r.Fault) (n : ℕ) (mark : r.Mark)
    (outer : List ℕ) (h : Here) (f : A → Result R r.Answer) (g : A × Here → Result R r.Answer)
    → (o ≡ None → (x : A) → f x ≡ g (x, past n h))
    → unless r o mark (whole outer h) (meant p f (λ fault. refuse r mark fault (whole outer h))) ≡ (unless r o mark h (found r p n mark h) >>= g)
text_same r (Some d) p n mark outer h f g e = refl
text_same r None (Err d) n mark outer h f g e = refl
text_same r None (Ok x) n mark outer h f g e = e refl x

room_same : {A R : Type 0} (r : Rules) (o : Option r.Fault) (mark : r.Mark) (outer : List ℕ) (h : Here)
    (k : Result R r.Answer) (l : Result A r.Answer) (g : A → Result R r.Answer)
    → (o ≡ None → k ≡ (l >>= g)) → unless r o mark (whole outer h) k ≡ (unless r o mark h l >>= g)
room_same r (Some d) mark outer h k l g e = refl
room_same r None mark outer h k l g e = e refl

area_ends : {r : Rules} {A B : Type 0} (next : A → ℕ → Next r B) (n : ℕ) (fault : r.Fault) (mark : r.Mark)
    (outer : List ℕ) (h : Here) (x : A × Here)
    → end_of x.1 ≡ h.at + n
    → run (Next.end fault mark (length x.1.rest) (next x.0 (length h.rest - n))) (whole (drop n h.rest ++ outer) x.1)
    ≡ (cond (eqb (length x.1.rest) 0) (Ok (x.0, past n h)) (refuse r mark fault x.1) >>= behind next outer)
area_ends next n fault mark outer h x at =
    let text : take (length x.1.rest) (x.1.rest ++ (drop n h.rest ++ outer)) ≡ x.1.rest = take_at x.1.rest (drop n h.rest ++ outer) (length x.1.rest) refl in
    elim (cases_Bool (eqb (length x.1.rest) 0)) [
      | inl empty ↦
          let nothing : x.1.rest ≡ [] = nil_from_length x.1.rest (eqb-true _ _ empty) in
          let place : x.1.at ≡ h.at + n = omega (arith, at, eqb-true _ _ empty) in
          rw (text, empty, nothing, length-drop n h.rest, place) refl
      | inr more ↦ rw (text, more) refl
    ]

reads_each : {r : Rules} {A B : Type 0} (most : ℕ) (before : List A) (stops : Bool)
    (one : List A → (A → ℕ → Next r B) → ℕ → Next r B) (rd : List A → Here → Result (A × Here) r.Answer)
    → ((before : List A) (next : A → ℕ → Next r B) (outer : List ℕ) (h : Here)
    → run (one before next (length h.rest)) (whole outer h) ≡ (rd before h >>= behind next outer))
    → (next : List A → ℕ → Next r B) (outer : List ℕ) (h : Here)
    → run (each most before stops one next (length h.rest)) (whole outer h)
    ≡ (entries most before stops rd h >>= behind next outer)
reads_each zero before stops one rd each_one next outer h = refl
reads_each (suc n) before stops one rd each_one next outer h =
    elim (cases_Bool (stops && eqb (length h.rest) 0)) [
      | inl done ↦ rw done refl
      | inr more ↦ rw more (
          each_one before (λ x. each n (before ++ x ∷ []) stops one next) outer h
          ∙ bind_same (rd before h) _ _ (λ x. reads_each n (before ++ x.0 ∷ []) stops one rd each_one next outer x.1)
          ∙ sym (bind_assoc (rd before h) (λ x. entries n (before ++ x.0 ∷ []) stops rd x.1) (behind next outer)))
    ]

module _ (r : Rules) (sound : IsSound r) where
  -- reading stays in its area
  pub ends_same : {A : Type 0} (mark : r.Mark) (l : Form r A) (h : Here) (x : A × Here) → read mark l h ≡ Ok x → end_of x.1 ≡ end_of h
  ends_same mark (Form.done y) h x e = ap end_of (sym (here_of y x.0 h x.1 e))
  ends_same mark (Form.number width meaning number_for fault) h x e =
      let n = number_ok r sound mark width meaning number_for fault h x e in
      ap end_of (sym n.2) ∙ past_end width h n.0
  ends_same mark (Form.text n judge text_for) h x e =
      let t = unless_ok r (r.lacks mark h.at n (length h.rest)) mark h _ x e in
      let f = was_found r (judge (take n h.rest)) n mark h x t.1 in
      ap end_of (sym f.1) ∙ past_end n h (sound mark h.at n (length h.rest) t.0)
  ends_same mark (Form.field get l f) h x e =
      let b = bind_ok (read mark l h) (λ x. read mark (f x.0) x.1) x e in
      ends_same mark (f b.0.0) b.0.1 x b.2 ∙ ends_same mark l h b.0 b.1
  ends_same mark (Form.area n fault l) h x e =
      let t = unless_ok r (r.lacks mark h.at n (length h.rest)) mark h _ x e in
      let b = bind_ok (read mark l (record { rest = take n h.rest; at = h.at })) _ x t.1 in
      let done = test_end (eqb (length b.0.1.rest) 0) (b.0.0, past n h) _ x b.2 in
      ap (λ y. end_of y.1) (sym done.1) ∙ past_end n h (sound mark h.at n (length h.rest) t.0)
  ends_same mark (Form.list most stops l) h x e = ends_each most [] stops (λ before. read mark (l before)) (λ before. ends_same mark (l before)) h x e
  ends_same mark (Form.by_left f) h x e = ends_same mark (f (length h.rest)) h x e
  ends_same mark (Form.marked n l) h x e = ends_same n l h x e

  abbrev Reads : {A B : Type 0} → r.Mark → Form r A → (A → ℕ → Next r B) → List ℕ → Here → Type 0
  Reads mark l next outer h = run (steps mark l next (length h.rest)) (whole outer h) ≡ (read mark l h >>= behind next outer)

  pub reads : {A B : Type 0} (mark : r.Mark) (l : Form r A) (next : A → ℕ → Next r B) (outer : List ℕ) (h : Here) → Reads mark l next outer h
  reads mark (Form.done x) next outer h = refl
  reads mark (Form.number width meaning number_for fault) next outer h =
      let text : take (length h.rest) (h.rest ++ outer) ≡ h.rest = take_at h.rest outer (length h.rest) refl in
      rw text
      (text_same r (r.lacks mark h.at width (length h.rest))
      (or_fault (meaning (length h.rest - width) (number_of (take width h.rest))) fault) width mark outer h _
      (behind next outer)
      (λ none x. moved (next x) width outer h (sound mark h.at width (length h.rest) none)))
  reads mark (Form.text n judge text_for) next outer h =
      let text : take (length h.rest) (h.rest ++ outer) ≡ h.rest = take_at h.rest outer (length h.rest) refl in
      rw text (text_same r (r.lacks mark h.at n (length h.rest)) (judge (take n h.rest)) n mark outer h _ (behind next outer)
      (λ none x. moved (next x) n outer h (sound mark h.at n (length h.rest) none)))
  reads mark (Form.field get l f) next outer h =
      reads mark l (λ x. steps mark (f x) next) outer h
      ∙ bind_same (read mark l h) _ _ (λ x. reads mark (f x.0) next outer x.1)
      ∙ sym (bind_assoc (read mark l h) (λ x. read mark (f x.0) x.1) (behind next outer))
  reads {A = A} {B = B} mark (Form.area n fault l) next outer h =
      let text : take (length h.rest) (h.rest ++ outer) ≡ h.rest = take_at h.rest outer (length h.rest) refl in
      let inside : A → ℕ → Next r B = λ x inside. Next.end fault mark inside (next x (length h.rest - n)) in
      let h' : Here = record { rest = take n h.rest; at = h.at } in
      rw text (room_same r (r.lacks mark h.at n (length h.rest)) mark outer h (run (steps mark l inside n) (whole outer h)) _ (behind next outer) (λ none.
      let le : n ≤ length h.rest = sound mark h.at n (length h.rest) none in
      let len : length (take n h.rest) ≡ n = omega (arith, length-take n h.rest) in
      let parts : take n h.rest ++ (drop n h.rest ++ outer) ≡ h.rest ++ outer =
      sym (append_assoc (take n h.rest) (drop n h.rest) outer)
      ∙ ap (λ (r : List ℕ). r ++ outer) (take-append-drop n h.rest) in
      let same : run (steps mark l inside n) (whole outer h)
      ≡ run (steps mark l inside (length (take n h.rest))) (whole (drop n h.rest ++ outer) h') =
      rw (len, parts) refl in
      same ∙ reads mark l inside (drop n h.rest ++ outer) h'
      ∙ bind_known (read mark l h') _ _ (λ x is. area_ends next n fault mark outer h x (ends_same mark l h' x is ∙ omega (arith, len)))
      ∙ sym (bind_assoc (read mark l h') _ (behind next outer))))
  reads mark (Form.list most stops l) next outer h =
      reads_each most [] stops (λ before. steps mark (l before)) (λ before. read mark (l before))
      (λ before. reads mark (l before)) next outer h
  reads mark (Form.by_left f) next outer h = reads mark (f (length h.rest)) next outer h
  reads mark (Form.marked n l) next outer h = reads n l next outer h
