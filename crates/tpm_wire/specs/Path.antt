-- Which bytes spell a value, and where others have their fault.
use Rattle.std.specs.Prelude.{◌≡◌, ◌⊎◌, ◌↔◌, ℕ, zero, suc, ◌-◌, Bool, true, false, List, [], ◌∷◌, ◌++◌, length, take}
use Rattle.std.specs.Prelude.{drop, Option, Some, None, Result, Ok, Err, ◌==◌, ◌&&◌, if◌then◌else◌}
use Rattle.tpm_wire.specs.Rules.{Rules}
use Rattle.tpm_wire.specs.Token.{Token, spelled, spelled_all, number_of, Here, past, at_start, or_fault}
use Rattle.tpm_wire.specs.Layout.{Form}
use Rattle.tpm_wire.specs.Reading.{read}

-- What a layout says from a place on: it ends, or asks for a token, and by its value goes on.
-- Each token has a mark, and a number of bytes that are left in its area.
pub data Next (r : Rules) : Type 0 → Type 1 where
  ends : {A : Type 0} → A → Next r A
  text : {A X : Type 0} → (n : ℕ) → (judge : List ℕ → Result X r.Fault) → (mark : r.Mark) → (left : ℕ) → (X → Next r A)
      → Next r A
  room : {A : Type 0} → (n : ℕ) → (mark : r.Mark) → (left : ℕ) → Next r A → Next r A
  end : {A : Type 0} → (fault : r.Fault) → (mark : r.Mark) → (left : ℕ) → Next r A → Next r A

-- the value at the end
abbrev pub ended : {r : Rules} {A : Type 0} → Next r A → Option A
ended (Next.ends x) = Some x
ended _ = None

abbrev pub go_on : {r : Rules} {A X : Type 0} → Result X r.Fault → (X → Next r A) → Next r A → Next r A
go_on (Err fault) next here = here
go_on (Ok x) next here = next x

-- what a layout says after a token
abbrev pub after : {r : Rules} {A : Type 0} → Next r A → Token → Next r A
after {r = r} (Next.text n judge mark left next) (Token.text bytes) =
    go_on {r = r} (judge bytes) next (Next.text n judge mark left next)
after (Next.room n mark left next) (Token.room m) = next
after (Next.end fault mark left next) Token.end = next
after next _ = next

abbrev pub after_all : {r : Rules} {A : Type 0} → Next r A → List Token → Next r A
after_all next [] = next
after_all next (t ∷ ts) = after_all (after next t) ts

-- the token is of the kind that is asked for, whatever its value
abbrev pub IsAsked : {r : Rules} {A : Type 0} → Next r A → Token → Type 0
IsAsked (Next.text n judge mark left next) (Token.text bytes) = length bytes ≡ n
IsAsked (Next.room n mark left next) (Token.room m) = m ≡ n
IsAsked (Next.end fault mark left next) Token.end = Unit {0}
IsAsked _ _ = ⊥

abbrev pub first : {F : Type 0} → Option F → Option F → Option F
first (Some fault) other = Some fault
first None other = other

abbrev pub fault_in : {X F : Type 0} → Result X F → Option F
fault_in (Ok x) = None
fault_in (Err fault) = Some fault

-- The fault of the token that is asked for, if it has one: it lacks bytes, or else its value is refused, or bytes are
-- left.
abbrev pub fault_at : {r : Rules} {A : Type 0} → Next r A → Here → Option r.Fault
fault_at (Next.ends x) h = None
fault_at {r = r} (Next.text n judge mark left next) h =
    first (r.lacks mark h.at n (length (take left h.rest))) (fault_in (judge (take n (take left h.rest))))
fault_at {r = r} (Next.room n mark left next) h = r.lacks mark h.at n (length (take left h.rest))
fault_at (Next.end fault mark left next) h = if length (take left h.rest) == 0 then None else Some fault

-- the mark of the token that is asked for
abbrev pub mark_of : {r : Rules} {A : Type 0} → Next r A → r.Mark
mark_of {r = r} (Next.ends x) = r.whole
mark_of (Next.text n judge mark left next) = mark
mark_of (Next.room n mark left next) = mark
mark_of (Next.end fault mark left next) = mark

-- The token is asked for and has no fault, and its spelling begins the bytes.
abbrev pub Allows : {r : Rules} {A : Type 0} → Next r A → Here → Token → Type 0
Allows next h t = IsAsked next t × (fault_at next h ≡ None) × (h.rest ≡ spelled t ++ drop (length (spelled t)) h.rest)

-- Each of the tokens is allowed after those before it, and their joined spellings begin the bytes.
abbrev pub IsPath : {r : Rules} {A : Type 0} → Next r A → Here → List Token → Type 0
IsPath next h [] = Unit {0}
IsPath next h (t ∷ ts) = Allows next h t × IsPath (after next t) (past (length (spelled t)) h) ts

-- The token that is asked for is refused with this answer.
abbrev pub IsRefused : {r : Rules} {A : Type 0} → Next r A → Here → r.Answer → Type 0
IsRefused {r = r} next h e =
    (fault : r.Fault) × (fault_at next h ≡ Some fault) × (e ≡ r.answer (mark_of next) fault h.at)

abbrev pub one_of : {r : Rules} {A : Type 0} → Bool → Next r A → Next r A → Next r A
one_of true x y = x
one_of false x y = y

-- entries of a list, up to so many, and no more where the area ends and that is allowed
abbrev pub each : {r : Rules} {A B : Type 0} → ℕ → List A → Bool → (List A → (A → ℕ → Next r B) → ℕ → Next r B)
    → (List A → ℕ → Next r B) → ℕ → Next r B
each zero before stops one next left = next before left
each (suc n) before stops one next left =
    one_of (stops && left == 0) (next before left) (one before (λ x. each n (before ++ x ∷ []) stops one next) left)

-- what a layout says in an area, where so many bytes are left, with what follows it
abbrev pub steps : {r : Rules} {A B : Type 0} → r.Mark → Form r A → (A → ℕ → Next r B) → ℕ → Next r B
steps mark (Form.done x) next left = next x left
steps mark (Form.number width meaning number_for fault) next left =
    Next.text width (λ bytes. or_fault (meaning (left - width) (number_of bytes)) fault) mark left
    (λ x. next x (left - width))
steps mark (Form.text n judge text_for) next left = Next.text n judge mark left (λ x. next x (left - n))
steps mark (Form.field get l f) next left = steps mark l (λ x. steps mark (f x) next) left
steps mark (Form.area n fault l) next left =
    Next.room n mark left (steps mark l (λ x inside. Next.end fault mark inside (next x (left - n))) n)
steps mark (Form.list most stops l) next left = each most [] stops (λ before. steps mark (l before)) next left
steps mark (Form.by_left f) next left = steps mark (f left) next left
steps mark (Form.marked n l) next left = steps n l next left

-- what a layout says of so many bytes, which it has to fill
abbrev pub start : {r : Rules} {A : Type 0} → Form r A → ℕ → Next r A
start {r = r} l n = steps r.whole l (λ x left. Next.end r.over r.whole left (Next.ends x)) n

-- The bytes are the whole of a path that ends with the value.
abbrev pub Spells : {r : Rules} {A : Type 0} → Form r A → A → List ℕ → Type 0
Spells l x bytes =
    (path : List Token) × IsPath (start l (length bytes)) (at_start bytes) path
    × (spelled_all path ≡ bytes)
    × (ended (after_all (start l (length bytes)) path) ≡ Some x)

-- A path begins the bytes, and the token that is asked for after it is refused there with this answer.
abbrev pub Fault : {r : Rules} {A : Type 0} → Form r A → List ℕ → r.Answer → Type 0
Fault l bytes e = (path : List Token) × IsPath (start l (length bytes)) (at_start bytes) path
    × IsRefused (after_all (start l (length bytes)) path) (past (length (spelled_all path)) (at_start bytes)) e

-- What a function returned, as view sees it, is what the bytes spell, or else their fault.
abbrev pub Decodes : {r : Rules} {X A : Type 0} → Form r A → (X → A) → List ℕ → Result X r.Answer → Type 0
Decodes l view bytes (Ok x) = Spells l (view x) bytes
Decodes l view bytes (Err e) = Fault l bytes e

-- Bytes spell one value, or have one fault.
pub record ExactlyOne {r : Rules} {A : Type 0} (l : Form r A) (bytes : List ℕ) : Type 0 where
  pub some : ((x : A) × Spells l x bytes) ⊎ ((e : r.Answer) × Fault l bytes e)
  pub one_value : (x y : A) → Spells l x bytes → Spells l y bytes → x ≡ y
  pub one_fault : (e f : r.Answer) → Fault l bytes e → Fault l bytes f → e ≡ f
  pub not_both : (x : A) (e : r.Answer) → Spells l x bytes → Fault l bytes e → ⊥

-- ---- a part of the bytes

-- what a layout says in an area where so many bytes are left, with nothing behind it
abbrev pub alone : {r : Rules} {A : Type 0} → r.Mark → Form r A → ℕ → Next r A
alone mark l left = steps mark l (λ x left. Next.ends x) left

-- From a place on the bytes begin with a path that ends with the value, and behind it is the other place.
abbrev pub Begins : {r : Rules} {A : Type 0} → r.Mark → Form r A → A → Here → Here → Type 0
Begins mark l x h behind = (path : List Token) × IsPath (alone mark l (length h.rest)) h path
    × (behind ≡ past (length (spelled_all path)) h) × (ended (after_all (alone mark l (length h.rest)) path) ≡ Some x)

-- From a place on the bytes begin with a path, and the token that is asked for after it is refused there with this
-- answer.
abbrev pub FaultFrom : {r : Rules} {A : Type 0} → r.Mark → Form r A → Here → r.Answer → Type 0
FaultFrom mark l h e = (path : List Token) × IsPath (alone mark l (length h.rest)) h path
    × IsRefused (after_all (alone mark l (length h.rest)) path) (past (length (spelled_all path)) h) e

-- What reading answers in the rest of an area is what its one path says.
pub record ReadsItsPath {r : Rules} {A : Type 0} (mark : r.Mark) (l : Form r A) (h : Here) : Type 0 where
  pub value : (x : A) (behind : Here) → (read mark l h ≡ Ok (x, behind)) ↔ Begins mark l x h behind
  pub fault : (e : r.Answer) → (read mark l h ≡ Err e) ↔ FaultFrom mark l h e
