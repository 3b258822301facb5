-- How a value lies in bytes.
use Rattle.std.specs.Prelude.{ℕ, Bool, true, false, List, Option, Result, Ok}
use Rattle.tpm_wire.specs.Rules.{Rules}

-- What the bytes of a value of A are, from left to right.
pub data Form (r : Rules) : Type 0 → Type 1 where
  -- no byte; the value is this
  done : {A : Type 0} → A → Form r A
  -- A number of so many bytes. It has a meaning, by how many bytes are left after it in the area, or else it has the
  -- fault.
  number : {A : Type 0} → (width : ℕ) → (meaning : ℕ → ℕ → Option A) → (number_for : A → ℕ) → (fault : r.Fault)
      → Form r A
  -- so many bytes, which have a value or a fault
  text : {A : Type 0} → (n : ℕ) → (judge : List ℕ → Result A r.Fault) → (text_for : A → List ℕ) → Form r A
  -- a part of the value, and by that part what follows it
  field : {A B : Type 0} → (A → B) → Form r B → (B → Form r A) → Form r A
  -- an area of so many bytes, with the fault of bytes that are left in it
  area : {A : Type 0} → (n : ℕ) → (fault : r.Fault) → Form r A → Form r A
  -- so many entries, each by those before it, or fewer where the area ends before and that is allowed
  list : {A : Type 0} → (most : ℕ) → (stops : Bool) → (List A → Form r A) → Form r (List A)
  -- what it is by how many bytes are left in the area
  by_left : {A : Type 0} → (ℕ → Form r A) → Form r A
  -- under this mark
  marked : {A : Type 0} → r.Mark → Form r A → Form r A

-- so many bytes, whatever they are
abbrev pub raw : {r : Rules} → (n : ℕ) → Form r (List ℕ)
raw n = Form.text n (λ bytes. Ok bytes) (λ bytes. bytes)

-- entries to the end of the area, each of which takes some bytes
abbrev pub to_the_end : {r : Rules} {A : Type 0} → (List A → Form r A) → Form r (List A)
to_the_end l = Form.by_left (λ left. Form.list left true l)

-- all bytes that are left in the area
abbrev pub remaining : {r : Rules} → Form r (List ℕ)
remaining = Form.by_left raw

-- a value, and all bytes that are left behind it in the area
abbrev pub cut : {r : Rules} {A : Type 0} → Form r A → Form r (A × List ℕ)
cut l = Form.field (λ x. x.0) l (λ a. Form.field (λ x. x.1) remaining (λ rest. Form.done (a, rest)))

-- the first where the test holds, and otherwise the second
abbrev pub either : {r : Rules} {A : Type 0} → Bool → Form r A → Form r A → Form r A
either true x y = x
either false x y = y
