-- What is found among counters.
use Rattle.std.proofs.Common.{◌≡◌, ℕ, ◌+◌, ◌<◌, List, [], ◌∷◌, ◌++◌, length, take, drop, get_or, set, Option, Some}
use Rattle.std.proofs.Common.{None, true, false, sym, refl, ap, ◌∙◌, arith}
use Rattle.std.proofs.lemmas.Option.{same_Some}
use Rattle.std.proofs.lemmas.List.{get_or_at, set_at, take_more, drop_more, take-append-drop, length-take-le}
use Rattle.std.specs.Prelude.{◌^◌, nat_le, Bool, if◌then◌else◌}
use Rattle.tpm_types.specs.declared.handle_sets.NvAuthHandle.{NvAuthHandle}
use Rattle.tpm_types.specs.Tpma.{owner_writes}
use Rattle.tpm_model.specs.Counters.{Counter, has_index, counter_in, next_value, written, incremented, with_increment}
use Rattle.tpm_model.specs.Counters.{NvMemory}
use Rattle.tpm_model.specs.Actions.{may}
use Rattle.tpm_model.proofs.Kept.{or_others, found_after}
use Rattle.tpm_nv.specs.Definitions.{Definition, definition_of}
use Rattle.tpm_nv.specs.inner.Places.{IsPlace}

split_at : (xs : List Counter) (k : ℕ) (d : Counter) → k < length xs → xs ≡ take k xs ++ get_or xs k d ∷ drop (k + 1) xs
split_at xs k d lt = sym (take-append-drop k xs) ∙ ap (λ (r : List Counter). take k xs ++ r) (drop_more xs k d lt)

pub at_place : (i k : ℕ) (xs : List Counter) (p : IsPlace i k xs) (d : Counter) → get_or xs k d ≡ p.counter
at_place i k xs p d = ap (λ (l : List Counter). get_or l k d) p.split ∙ get_or_at p.front p.counter p.back d k p.at

pub found_at : (i k : ℕ) (xs : List Counter) (p : IsPlace i k xs) → counter_in xs i ≡ Some p.counter
found_at i k xs p = ap (λ (l : List Counter). counter_in l i) p.split ∙ found_after i p.front (p.counter ∷ p.back) p.none ∙ rw p.same refl

-- ---- looking through them

pub is_place : (i : ℕ) (xs : List Counter) (k : ℕ) (c : Counter) → k < length xs → c ≡ get_or xs k c → has_index i c ≡ true → counter_in (take k xs) i ≡ None
    → IsPlace i k xs
is_place i xs k c lt at is none = record {
  front = take k xs;
  counter = c;
  back = drop (k + 1) xs;
  split = split_at xs k c lt ∙ ap (λ (x : Counter). take k xs ++ x ∷ drop (k + 1) xs) (sym at);
  at = length-take-le k xs (omega (arith, lt));
  same = is;
  none = none;
}

pub found_more : (i : ℕ) (xs : List Counter) (k : ℕ) (c : Counter) → k < length xs → c ≡ get_or xs k c → counter_in (take k xs) i ≡ None → has_index i c ≡ false
    → counter_in (take (k + 1) xs) i ≡ None
found_more i xs k c lt at none other =
    ap (λ (l : List Counter). counter_in l i) (take_more xs k c lt ∙ ap (λ (x : Counter). take k xs ++ x ∷ []) (sym at))
    ∙ found_after i (take k xs) (c ∷ []) none ∙ rw other refl

-- ---- an increment

increment_after : (i greatest : ℕ) (xs : List Counter) (c : Counter) (ys : List Counter) → counter_in xs i ≡ None → has_index i c ≡ true
    → with_increment i greatest (xs ++ c ∷ ys) ≡ xs ++ incremented greatest c ∷ ys
increment_after i greatest [] c ys none is = rw is refl
increment_after i greatest (x ∷ xs) c ys none is =
    let both = or_others i x (counter_in xs i) none in rw both.0 (ap (λ (l : List Counter). x ∷ l) (increment_after i greatest xs c ys both.1 is))

pub increment_at : (i k greatest : ℕ) (xs : List Counter) (p : IsPlace i k xs) → set xs k (incremented greatest p.counter) ≡ with_increment i greatest xs
increment_at i k greatest xs p =
    ap (λ (l : List Counter). set l k (incremented greatest p.counter)) p.split ∙ set_at p.front p.counter p.back (incremented greatest p.counter) k p.at
    ∙ sym (ap (with_increment i greatest) p.split ∙ increment_after i greatest p.front p.counter p.back p.none p.same)

-- the counter that a place and its element show
pub entry_found : (i k : ℕ) (one two items : List Counter) (r e : Counter) → one ≡ items → two ≡ items → IsPlace i k one → r ≡ get_or two k r → e ≡ r
    → counter_in items i ≡ Some e
entry_found i k one two items r e first second p at is =
    ap (λ (l : List Counter). counter_in l i) (sym first) ∙ found_at i k one p
    ∙ ap Some (sym (is ∙ at ∙ ap (λ (l : List Counter). get_or l k r) (second ∙ sym first) ∙ at_place i k one p r))

-- whether who authorizes may increment it, by its definition
pub may_writes : (by : NvAuthHandle) (i attrs : ℕ) (c : Counter) (d : Definition) (write b : Bool) → b ≡ may by write i → write ≡ owner_writes attrs
    → attrs ≡ d.public.attrs → d ≡ definition_of c → may by (owner_writes c.public.attrs) i ≡ b
may_writes by i attrs c d write b allowed owner is defined =
    sym (allowed ∙ ap (λ (b : Bool). may by b i) (owner ∙ ap owner_writes (is ∙ ap (λ (x : Definition). x.public.attrs) defined)))

-- what an increment gives
pub raised_to : (greatest : ℕ) (value : Option ℕ) (v : ℕ)
    → Some v ≡ (if nat_le (2 ^ 64) (next_value greatest value) then None else Some (next_value greatest value))
    → (nat_le (2 ^ 64) (next_value greatest value) ≡ false) × (v ≡ next_value greatest value)
raised_to greatest value v e = elim (nat_le (2 ^ 64) (next_value greatest value)) as
    (λ b. Some v ≡ (if b then None else Some (next_value greatest value)) → (b ≡ false) × (v ≡ next_value greatest value)) [
      | true ↦ λ h. absurd (let k : ⊥ = cc in k)
      | false ↦ λ h. (refl, sym (same_Some (next_value greatest value) v (sym h)))
    ] e

pub not_raised : (greatest : ℕ) (value : Option ℕ) → None ≡ (if nat_le (2 ^ 64) (next_value greatest value) then None else Some (next_value greatest value))
    → nat_le (2 ^ 64) (next_value greatest value) ≡ true
not_raised greatest value e = elim (nat_le (2 ^ 64) (next_value greatest value)) as
    (λ b. ◌≡◌ {A = Option ℕ} None (if b then None else Some (next_value greatest value)) → b ≡ true) [
      | true ↦ λ h. refl
      | false ↦ λ h. absurd (let k : ⊥ = cc in k)
    ] e

-- where a counter was given the value of an increment, it was incremented
pub increment_is : (i k greatest value : ℕ) (one two three items new : List Counter) (r : Counter) → one ≡ items → two ≡ items → three ≡ items → IsPlace i k one
    → r ≡ get_or two k r → value ≡ next_value greatest r.value →
    new ≡ set three k (record { public = written r.public; auth = r.auth; value = Some value }) → new ≡ with_increment i greatest items
increment_is i k greatest value one two three items new r first second third p at is wrote =
    let the_counter : p.counter ≡ r = sym (at_place i k one p r) ∙ ap (λ (l : List Counter). get_or l k r) (first ∙ sym second) ∙ sym at in
    wrote ∙ ap (λ (v : ℕ). set three k (let c : Counter = record { public = written r.public; auth = r.auth; value = Some v } in c)) is
    ∙ ap (λ (l : List Counter). set l k (incremented greatest r)) (third ∙ sym first)
    ∙ ap (λ (c : Counter). set one k (incremented greatest c)) (sym the_counter)
    ∙ increment_at i k greatest one p ∙ ap (with_increment i greatest) first

pub same_memory : (a b : List Counter) (n m : ℕ) (memory : NvMemory) → a ≡ b → n ≡ m → memory ≡ record { counters = b; greatest = m }
    → record { counters = a; greatest = n } ≡ memory
same_memory a b n m memory counters greatest is =
    ap (λ (x : List Counter). let r : NvMemory = record { counters = x; greatest = n } in r) counters
    ∙ ap (λ (x : ℕ). let r : NvMemory = record { counters = b; greatest = x } in r) greatest ∙ sym is
