-- A value alone in its bytes, where no value has more than 4,096.
use Rattle.std.proofs.Common.{◌≡◌, ℕ, ◌≤◌, ◌<◌, Bool, true, false, cond, eqb, leb, List, ◌++◌, length, take, drop}
use Rattle.std.proofs.Common.{Result, Ok, Err, refl, sym, ap, ◌∙◌, arith}
use Rattle.std.specs.Prelude.{◌&&◌}
use Rattle.std.proofs.lemmas.Bool.{ne_eqb, leb-true, leb-false}
use Rattle.std.proofs.lemmas.List.{take-append-drop, length-append, length-take, length-drop, take_all}
use Rattle.tpm_wire.specs.declared.refusal.Refusal.{Refusal}
use Rattle.tpm_wire.specs.Token.{Here, at_start}
use Rattle.tpm_wire.specs.Reading.{read, read_all, finish, ◌>>=◌}
use Rattle.tpm_wire.specs.Buffers.{buffer, Layout, Place}
use Rattle.tpm_wire.specs.WholeValues.{left_over, ended, whole_in}
use Rattle.tpm_wire.specs.Longer.{with_more}
use Rattle.tpm_wire.specs.Path.{Decodes}
use Rattle.tpm_wire.proofs.Buffers.{buffer_sound}
use Rattle.tpm_wire.proofs.Longer.{TakesAtMost}
use Rattle.tpm_wire.proofs.Whole.{decodes}

abbrev ok : {A : Type 0} → A → Result A Refusal
ok x = Ok x

abbrev err : {A : Type 0} → Refusal → Result A Refusal
err e = Err e

-- what is made of what was read, where all of the bytes are looked at
abbrev finished : {A : Type 0} → Result (A × Here) Refusal → Result A Refusal
finished o = (o >>= finish buffer) >>= λ x. ok x.0

-- ---- the end

chosen_ok : {A B : Type 0} (b : Bool) (x : A) (y : B) (e : Refusal) (u : A) → cond b (ok x) (err e) ≡ Ok u
    → cond b (ok y) (err e) ≡ Ok y
chosen_ok true x y e u is = refl
chosen_ok false x y e u is = absurd cc

chosen_err : {A B : Type 0} (b : Bool) (x : A) (y : B) (e f : Refusal) → cond b (ok x) (err e) ≡ Err f
    → cond b (ok y) (err e) ≡ Err f
chosen_err true x y e f is = absurd cc
chosen_err false x y e f is = let same : e ≡ f = cc in ap (λ (g : Refusal). err g) same

-- A value ends where no bytes are left, whatever it is.
pub ends_so : {A : Type 0} (bytes : List ℕ) (h : Here) (x : A) (u : Unit {0}) → ended {A = Unit {0}} bytes (tt, h) ≡ Ok u
    → ended bytes (x, h) ≡ Ok x
ends_so bytes h x u is = chosen_ok ((eqb (length h.rest) 0) && leb (length bytes) 4096) (tt {0}) x (left_over h) u is

pub goes_on_so : {A : Type 0} (bytes : List ℕ) (h : Here) (x : A) (e : Refusal) → ended {A = Unit {0}} bytes (tt, h) ≡ Err e
    → ended bytes (x, h) ≡ Err e
goes_on_so bytes h x e is = chosen_err ((eqb (length h.rest) 0) && leb (length bytes) 4096) (tt {0}) x (left_over h) e is

-- What is read from the beginning of the bytes is what is answered: the value, with its end,
pub whole_read : {A : Type 0} (l : Layout A) (bytes : List ℕ) (old : Place) (x : A) (h : Here) (r : Result A Refusal)
    → old ≡ record { here = at_start (take 4096 bytes); number = 0 }
    → read old.number l old.here ≡ Ok (x, h) → ended bytes (x, h) ≡ r → r ≡ whole_in l bytes
whole_read {A = A} l bytes old x h r begins is ends =
    let from : Place → Result (A × Here) Refusal = λ p. read p.number l p.here in
    sym (ap (λ (o : Result (A × Here) Refusal). o >>= ended bytes) (ap from (sym begins) ∙ is) ∙ ends)

-- or the fault.
pub whole_refused : {A : Type 0} (l : Layout A) (bytes : List ℕ) (old : Place) (e : Refusal)
    → old ≡ record { here = at_start (take 4096 bytes); number = 0 }
    → read old.number l old.here ≡ Err e → err e ≡ whole_in l bytes
whole_refused {A = A} l bytes old e begins is =
    let from : Place → Result (A × Here) Refusal = λ p. read p.number l p.here in
    sym (ap (λ (o : Result (A × Here) Refusal). o >>= ended bytes) (ap from (sym begins) ∙ is))

-- ---- what is read of all of the bytes

left : {A : Type 0} (more : List ℕ) → 0 < length more → (x : A) (g : Here)
    → finished (ok (x, with_more more g)) ≡ err (left_over g)
left more some x g =
    let n : eqb (length (g.rest ++ more)) 0 ≡ false =
    ne_eqb (length (g.rest ++ more)) 0 (λ e. omega (arith, some, e, length-append g.rest more)) in
    rw n refl

module _ {A : Type 0} (k : ℕ) (l : Layout A) (short : TakesAtMost k l) (few : k ≤ 4096) (bytes : List ℕ) where
  of_few : leb (length bytes) 4096 ≡ true → whole_in l bytes ≡ read_all l bytes
  of_few le =
      ap (λ (b : List ℕ). read 0 l (at_start b) >>= ended bytes) (take_all 4096 bytes (leb-true (length bytes) 4096 le))
      ∙ go (read 0 l (at_start bytes))
    where
      chosen : (b : Bool) (x : A × Here)
          → cond (b && true) (ok x.0) (err (left_over x.1))
          ≡ (cond b (ok x) (err (left_over x.1)) >>= λ x. ok x.0)
      chosen true x = refl
      chosen false x = refl

      go : (o : Result (A × Here) Refusal) → (o >>= ended bytes) ≡ finished o
      go (Ok x) = rw le (chosen (eqb (length x.1.rest) 0) x)
      go (Err e) = refl

  of_many : leb (length bytes) 4096 ≡ false → whole_in l bytes ≡ read_all l bytes
  of_many gt = go (read 0 l (at_start (take 4096 bytes))) refl
    where
      long : 4096 < length bytes
      long = leb-false (length bytes) 4096 gt

      all : (r : Result (A × Here) Refusal) → read 0 l (at_start (take 4096 bytes ++ drop 4096 bytes)) ≡ r
          → finished r ≡ read_all l bytes
      all r is =
          ap finished
          (sym (ap (λ (b : List ℕ). read 0 l (at_start b)) (sym (take-append-drop 4096 bytes)) ∙ is))

      never : (b : Bool) (x : A × Here) → cond (b && false) (ok x.0) (err (left_over x.1)) ≡ err (left_over x.1)
      never true x = refl
      never false x = refl

      go : (o : Result (A × Here) Refusal) → read 0 l (at_start (take 4096 bytes)) ≡ o
          → (o >>= ended bytes) ≡ read_all l bytes
      go (Err e) is =
          all (Err e)
          (short.fault 0 (at_start (take 4096 bytes)) (drop 4096 bytes) e
          (omega (arith, long, few, length-take 4096 bytes)) is)
      go (Ok x) is =
          rw gt (never (eqb (length x.1.rest) 0) x)
          ∙ sym (left (drop 4096 bytes) (omega (arith, long, length-drop 4096 bytes)) x.0 x.1)
          ∙ all (Ok (x.0, with_more (drop 4096 bytes) x.1))
          (short.same 0 (at_start (take 4096 bytes)) (drop 4096 bytes) x is)

  -- What is answered is what all of the bytes spell, or their first fault.
  pub whole_is : whole_in l bytes ≡ read_all l bytes
  whole_is = go (leb (length bytes) 4096) refl
    where
      go : (b : Bool) → leb (length bytes) 4096 ≡ b → whole_in l bytes ≡ read_all l bytes
      go true is = of_few is
      go false is = of_many is

  pub whole_decodes : (o : Result A Refusal) → o ≡ whole_in l bytes → Decodes l (λ x. x) bytes o
  whole_decodes o is = decodes buffer buffer_sound l bytes o (is ∙ whole_is)
