-- What is spelled is read again, and nothing else is consumed.
use Rattle.std.proofs.Common.{◌≡◌, ℕ, zero, suc, ◌+◌, ◌-◌, ◌≤◌, ◌⊎◌, Bool, true, false, eqb, List, [], ◌∷◌, ◌++◌}
use Rattle.std.proofs.Common.{length, Result, Ok, refl, sym, ap, subst, ◌∙◌, append_assoc, arith, inl, inr, All}
use Rattle.std.proofs.lemmas.Bool.{eq-eqb, ne_eqb, and_right, and_from}
use Rattle.std.proofs.lemmas.List.Elements.{All-head, All-tail}
use Rattle.std.proofs.lemmas.List.{take_at, drop_at, length-append, append-nil}
use Rattle.std.specs.Prelude.{◌&&◌}
use Rattle.std.specs.Int.{bytes_high_first}
use Rattle.tpm_wire.specs.Rules.{Rules}
use Rattle.tpm_wire.specs.inner.Rules.{IsRoomy}
use Rattle.tpm_wire.specs.Token.{Here}
use Rattle.tpm_wire.specs.Layout.{Form}
use Rattle.tpm_wire.specs.Reading.{entries, read, read_all}
use Rattle.tpm_wire.specs.Spelling.{joined, spelling, FitEach, Fits, IsSpelled}
use Rattle.tpm_wire.proofs.Numbers.{length-bytes_high_first, number_of-bytes}

-- the place before a text
abbrev before : List ℕ → List ℕ → ℕ → Here
before text more at = record { rest = text ++ more; at = at }

abbrev pair_at : {A : Type 0} → A → List ℕ → ℕ → A × Here
pair_at x rest at = (x, record { rest = rest; at = at })

abbrev ok_at : {A E : Type 0} → A → List ℕ → ℕ → Result (A × Here) E
ok_at x rest at = Ok (x, record { rest = rest; at = at })

enough : (text more : List ℕ) (n : ℕ) → length text ≡ n → n ≤ length (text ++ more)
enough text more n len = omega (arith, length-append text more)

fit_each : {r : Rules} {A E : Type 0} (l : List A → Form r A) (rd : List A → Here → Result (A × Here) E)
    → ((b : List A) (x : A) (more : List ℕ) (at : ℕ) → Fits (length (spelling (l b) x ++ more)) (l b) x
    → rd b (before (spelling (l b) x) more at) ≡ ok_at x more (at + length (spelling (l b) x)))
    → (most : ℕ) (b : List A) (stops : Bool) (xs : List A) (more : List ℕ) (at : ℕ)
    → FitEach (λ k b. Fits k (l b)) (λ b. spelling (l b)) stops most (length (joined (λ b. spelling (l b)) b xs ++ more)) b xs
    → entries most b stops rd (before (joined (λ b. spelling (l b)) b xs) more at) ≡ ok_at (b ++ xs) more (at + length (joined (λ b. spelling (l b)) b xs))
fit_each l rd again zero b stops [] more at f =
    let z : at + 0 ≡ at = omega arith in rw (z, append-nil b) refl
fit_each l rd again (suc n) b stops [] more at f =
    let z : at + 0 ≡ at = omega arith in
    elim f [
      | inl none ↦ absurd (omega arith)
      | inr e ↦
          let stop : (stops && eqb (length more) 0) ≡ true =
          and_from stops (eqb (length more) 0) e.0 (eq-eqb (length more) 0 e.1) in
          rw (stop, z, append-nil b) refl
    ]
fit_each l rd again zero b stops (x ∷ xs) more at f = absurd f
fit_each l rd again (suc n) b stops (x ∷ xs) more at f =
    let one = spelling (l b) x in
    let two = joined (λ b. spelling (l b)) (b ++ x ∷ []) xs in
    let parts : (one ++ two) ++ more ≡ one ++ (two ++ more) = append_assoc one two more in
    let long : length ((one ++ two) ++ more) ≡ length one + length (two ++ more) = omega (arith, ap length parts, length-append one (two ++ more)) in
    let go : (stops && eqb (length ((one ++ two) ++ more)) 0) ≡ false =
    and_right stops (eqb (length ((one ++ two) ++ more)) 0)
    (ne_eqb (length ((one ++ two) ++ more)) 0 (λ e. omega (arith, f.0, long, e))) in
    let first : rd b (before one (two ++ more) at) ≡ ok_at x (two ++ more) (at + length one) =
    again b x (two ++ more) at (subst (λ (k : List ℕ). Fits (length k) (l b) x) parts f.1) in
    let left : length ((one ++ two) ++ more) - length one ≡ length (two ++ more) = omega (arith, long) in
    let others =
    fit_each l rd again n (b ++ x ∷ []) stops xs more (at + length one)
    (subst (λ (k : ℕ). FitEach (λ k b. Fits k (l b)) (λ b. spelling (l b)) stops n k (b ++ x ∷ []) xs) left
    f.2) in
    let place : at + length one + length two ≡ at + length (one ++ two) = omega (arith, length-append one two) in
    rw (go, parts, first, others, place, append_assoc b (x ∷ []) xs) refl

module _ (r : Rules) (roomy : IsRoomy r) where
  pub again : {A : Type 0} (mark : r.Mark) (l : Form r A) (x : A) (more : List ℕ) (at : ℕ) → Fits (length (spelling l x ++ more)) l x
      → read mark l (before (spelling l x) more at) ≡ ok_at x more (at + length (spelling l x))
  again mark (Form.done y) x more at f = let z : at + 0 ≡ at = omega arith in let same : x ≡ y = f in rw (z, same) refl
  again mark (Form.number width meaning number_for fault) x more at f =
      let len = length-bytes_high_first width (number_for x) in
      let text = bytes_high_first width (number_for x) in
      let back = number_of-bytes width (number_for x) f.0 in
      rw (
        roomy mark at width (length (text ++ more)) (enough text more width len),
        take_at text more width len,
        back,
        f.1,
        drop_at text more width len,
        len,
      ) refl
  again mark (Form.text n judge text_for) x more at f =
      let text = text_for x in
      rw (roomy mark at n (length (text ++ more)) (enough text more n f.0), take_at text more n f.0, f.1, drop_at text more n f.0, f.0) refl
  again mark (Form.field get l f) x more at fits =
      let one = spelling l (get x) in
      let two = spelling (f (get x)) x in
      let parts : (one ++ two) ++ more ≡ one ++ (two ++ more) = append_assoc one two more in
      let long : length ((one ++ two) ++ more) ≡ length one + length (two ++ more) = omega (arith, ap length parts, length-append one (two ++ more)) in
      let first = again mark l (get x) (two ++ more) at (subst (λ (k : List ℕ). Fits (length k) l (get x)) parts fits.0) in
      let left : length ((one ++ two) ++ more) - length one ≡ length (two ++ more) = omega (arith, long) in
      let second = again mark (f (get x)) x more (at + length one) (subst (λ (k : ℕ). Fits k (f (get x)) x) left fits.1) in
      let place : at + length one + length two ≡ at + length (one ++ two) = omega (arith, length-append one two) in
      rw (parts, first, second, place) refl
  again mark (Form.area n fault l) x more at f =
      let text = spelling l x in
      let len : length text ≡ n = f.0 in
      let inside : read mark l (record { rest = text; at = at }) ≡ ok_at x [] (at + length text) =
      ap (λ (k : List ℕ). read mark l (record { rest = k; at = at })) (sym (append-nil text))
      ∙ again mark l x [] at (subst (λ (k : ℕ). Fits k l x) (sym (ap length (append-nil text) ∙ len)) f.1) in
      rw (roomy mark at n (length (text ++ more)) (enough text more n len), take_at text more n len, inside, drop_at text more n len, len) refl
  again mark (Form.list most stops l) x more at f = fit_each l (λ b. read mark (l b)) (λ b. again mark (l b)) most [] stops x more at f
  again mark (Form.by_left f) x more at fits =
      let left = length (spelling (f 0) x ++ more) in
      let text : spelling (f left) x ≡ spelling (f 0) x = fits.0 in
      let is = again mark (f left) x more at (subst (λ (k : List ℕ). Fits (length (k ++ more)) (f left) x) (sym text) fits.1) in
      subst (λ (k : List ℕ). read mark (f left) (before k more at) ≡ ok_at x more (at + length k)) text is
  again mark (Form.marked n l) x more at f = again n l x more at f

  -- A value that has a spelling is read from it.
  pub read_again : {A : Type 0} (l : Form r A) (x : A) → Fits (length (spelling l x)) l x → read_all l (spelling l x) ≡ Ok x
  read_again l x fits =
      let text = spelling l x in
      let nil = append-nil text in
      let is = again r.whole l x [] 0 (subst (λ (k : List ℕ). Fits (length k) l x) (sym nil) fits) in
      let whole : read r.whole l (record { rest = text; at = 0 }) ≡ ok_at x [] (0 + length text) =
      ap (λ (k : List ℕ). read r.whole l (record { rest = k; at = 0 })) (sym nil) ∙ is in
      rw whole refl

  -- No spelling of a value begins that of another.
  pub prefix_free : {A : Type 0} (l : Form r A) (x y : A) (more others : List ℕ) → ((left : ℕ) → Fits left l x) → ((left : ℕ) → Fits left l y)
      → spelling l x ++ more ≡ spelling l y ++ others → (x ≡ y) × (more ≡ others)
  prefix_free {A = A} l x y more others fx fy e =
      let both : ok_at {E = r.Answer} x more (0 + length (spelling l x)) ≡ ok_at y others (0 + length (spelling l y)) =
      sym (again r.whole l x more 0 (fx _)) ∙ ap (λ (k : List ℕ). read r.whole l (record { rest = k; at = 0 })) e ∙ again r.whole l y others 0 (fy _) in
      let pairs : pair_at x more (0 + length (spelling l x)) ≡ pair_at y others (0 + length (spelling l y)) = cc in
      (ap (λ (p : A × Here). p.0) pairs, ap (λ (p : A × Here). p.1.rest) pairs)

-- Entries that each have a spelling fit, as many as are asked for or to the end of the area.
pub fit_list : {r : Rules} {A : Type 0} (l : Form r A) (stops : Bool) (most left : ℕ) (i xs : List A) → All (IsSpelled l) xs → length xs ≤ most
    → (length xs ≡ most) ⊎ ((stops ≡ true) × (left ≡ length (joined (λ _. spelling l) i xs))) → FitEach (λ k _. Fits k l) (λ _. spelling l) stops most left i xs
fit_list l stops zero left i [] each le end = inl refl
fit_list l stops (suc n) left i [] each le (inl none) = absurd (omega arith)
fit_list l stops (suc n) left i [] each le (inr e) = inr e
fit_list l stops zero left i (x ∷ xs) each le end = absurd (omega arith)
fit_list l stops (suc n) left i (x ∷ xs) each le end =
    let first = All-head (IsSpelled l) x xs each in
    let rest : (length xs ≡ n) ⊎ ((stops ≡ true) × (left - length (spelling l x) ≡ length (joined (λ _. spelling l) (i ++ x ∷ []) xs))) = elim end [
      | inl e ↦ inl (omega arith)
      | inr e ↦ inr (e.0, omega (arith, e.1, length-append (spelling l x) (joined (λ _. spelling l) (i ++ x ∷ []) xs)))
    ] in
    (first.some, first.fits left, fit_list l stops n (left - length (spelling l x)) (i ++ x ∷ []) xs (All-tail (IsSpelled l) x xs each) (omega arith) rest)
