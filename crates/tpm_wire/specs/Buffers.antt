-- What buffers are read by.
use Rattle.std.specs.Prelude.{◌≡◌, ℕ, ◌+◌, ◌<◌, ◌≤◌, Bool, length, take, Option, Some, None, Result, Ok, Err, nat_lt}
use Rattle.std.specs.Prelude.{if◌then◌else◌}
use Rattle.tpm_wire.specs.declared.refusal.Refusal.{Refusal}
use Rattle.tpm_wire.specs.ResponseCodes.{rc_insufficient, rc_size}
use Rattle.tpm_wire.specs.Rules.{Rules}
use Rattle.tpm_wire.specs.Token.{Here, past}
use Rattle.tpm_wire.specs.Layout.{Form}
use Rattle.tpm_wire.specs.Reading.{read}

abbrev pub too_few : ℕ → ℕ → ℕ → ℕ → Option ℕ
too_few added at n left = if nat_lt left n then Some rc_insufficient else None

abbrev pub with_number : ℕ → ℕ → ℕ → Refusal
with_number added code at = record { code = code + added; at = at }

-- A fault is a code, a mark is the number that is added to it. Too few bytes in its area is the first fault of a token.
abbrev pub buffer : Rules
buffer = record {
  Fault = ℕ;
  Mark = ℕ;
  Answer = Refusal;
  whole = 0;
  over = rc_size;
  lacks = too_few;
  answer = with_number;
}

abbrev pub Layout : Type 0 → Type 1
Layout = Form buffer

-- with this number added to each code in it; an inner number is added in place of an outer one
abbrev pub numbered : {A : Type 0} → ℕ → Layout A → Layout A
numbered n l = Form.marked n l

-- a number in a set
abbrev pub number_in : ℕ → (ℕ → Bool) → ℕ → Layout ℕ
number_in width set code = Form.number width (λ left n. if set n then Some n else None) (λ n. n) code

-- any number
abbrev pub any_number : ℕ → Layout ℕ
any_number width = Form.number width (λ left n. Some n) (λ n. n) 0

-- what contracts see of a cursor: the rest of the present area, and the number that is added to codes
pub record Place : Type 0 where
  pub here : Here
  pub number : ℕ

-- What a function returned, as view sees it, is what reading gives from the old place, and the new place is behind it.
abbrev pub TakesAs : {X A : Type 0} → (X → A) → Layout A → Place → Place → Result X Refusal → Type 0
TakesAs view l old new (Ok x) = (read old.number l old.here ≡ Ok (view x, new.here)) × (new.number ≡ old.number)
TakesAs view l old new (Err e) = read old.number l old.here ≡ Err e

abbrev pub Takes : {A : Type 0} → Layout A → Place → Place → Result A Refusal → Type 0
Takes = TakesAs (λ x. x)

-- The same of a layout that gives each of its tokens its number: those of the places don't matter.
abbrev pub TakesNumbered : {X A : Type 0} → (X → A) → Layout A → Place → Place → Result X Refusal → Type 0
TakesNumbered view l old new (Ok x) = read 0 l old.here ≡ Ok (view x, new.here)
TakesNumbered view l old new (Err e) = read 0 l old.here ≡ Err e

-- the same fault, so many bytes further on
abbrev pub later_refusal : ℕ → Refusal → Refusal
later_refusal k e = record { code = e.code; at = e.at + k }

-- An area of n bytes begins at the old place, and what comes after it is kept.
abbrev pub Enters : ℕ → Place → Place → Result Here Refusal → Type 0
Enters n old new (Ok outer) =
    (n ≤ length old.here.rest)
    × (outer ≡ past n old.here)
    × (new ≡ record { here = record { rest = take n old.here.rest; at = old.here.at }; number = old.number })
Enters n old new (Err e) =
    (length old.here.rest < n) × (e ≡ record { code = rc_insufficient + old.number; at = old.here.at })

-- The area ends at the old place, and what comes after it is next.
abbrev pub Leaves : Here → Place → Place → Result (Unit {0}) Refusal → Type 0
Leaves outer old new (Ok x) = (length old.here.rest ≡ 0) × (new ≡ record { here = outer; number = old.number })
Leaves outer old new (Err e) =
    (0 < length old.here.rest) × (e ≡ record { code = rc_size + old.number; at = old.here.at })
