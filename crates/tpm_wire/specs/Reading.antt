-- Reading from left to right, with the first fault that is met.
use Rattle.std.specs.Prelude.{◌≡◌, ℕ, zero, suc, ◌-◌, Bool, List, [], ◌∷◌, ◌++◌, length, take, Option, Some, None}
use Rattle.std.specs.Prelude.{Result, Ok, Err, ◌==◌, ◌&&◌, if◌then◌else◌}
use Rattle.tpm_wire.specs.Rules.{Rules}
use Rattle.tpm_wire.specs.Token.{number_of, Here, past, at_start, or_fault}
use Rattle.tpm_wire.specs.Layout.Form.{done, number, text, field, area, list, by_left, marked}
use Rattle.tpm_wire.specs.Layout.{Form}

infixl 10 ◌>>=◌
abbrev pub ◌>>=◌ : {A B E : Type 0} → Result A E → (A → Result B E) → Result B E
(Ok x) >>= f = f x
(Err e) >>= f = Err e

abbrev pub refuse : {A : Type 0} → (r : Rules) → r.Mark → r.Fault → Here → Result A r.Answer
refuse r mark fault h = Err (r.answer mark fault h.at)

-- unless it has a fault
abbrev pub unless : {A : Type 0} → (r : Rules) → Option r.Fault → r.Mark → Here → Result A r.Answer → Result A r.Answer
unless r None mark h next = next
unless r (Some fault) mark h next = refuse r mark fault h

abbrev pub found : {A : Type 0} → (r : Rules) → Result A r.Fault → ℕ → r.Mark → Here → Result (A × Here) r.Answer
found r (Err fault) n mark h = refuse r mark fault h
found r (Ok x) n mark h = Ok (x, past n h)

abbrev pub entries : {A E : Type 0} → ℕ → List A → Bool → (List A → Here → Result (A × Here) E) → Here
    → Result (List A × Here) E
entries zero before stops read h = Ok (before, h)
entries (suc n) before stops read h = if stops && length h.rest == 0 then Ok (before, h) else
    (read before h >>= λ x. entries n (before ++ x.0 ∷ []) stops read x.1)

abbrev pub read : {r : Rules} {A : Type 0} → r.Mark → Form r A → Here → Result (A × Here) r.Answer
read mark (done x) h = Ok (x, h)
read {r = r} mark (number width meaning number_for fault) h =
    unless r (r.lacks mark h.at width (length h.rest)) mark h
    (found r (or_fault (meaning (length h.rest - width) (number_of (take width h.rest))) fault) width mark h)
read {r = r} mark (text n judge text_for) h =
    unless r (r.lacks mark h.at n (length h.rest)) mark h (found r (judge (take n h.rest)) n mark h)
read mark (field get l f) h = read mark l h >>= λ x. read mark (f x.0) x.1
read {r = r} mark (area n fault l) h = unless r (r.lacks mark h.at n (length h.rest)) mark h
    (read mark l (record { rest = take n h.rest; at = h.at })
    >>= λ x. if length x.1.rest == 0 then Ok (x.0, past n h) else refuse r mark fault x.1)
read mark (list most stops l) h = entries most [] stops (λ before. read mark (l before)) h
read mark (by_left f) h = read mark (f (length h.rest)) h
read mark (marked n l) h = read n l h

-- all of the bytes
abbrev pub finish : {A : Type 0} → (r : Rules) → A × Here → Result (A × Here) r.Answer
finish r x = if length x.1.rest == 0 then Ok x else refuse r r.whole r.over x.1

abbrev pub read_all : {r : Rules} {A : Type 0} → Form r A → List ℕ → Result A r.Answer
read_all {r = r} l bytes = read r.whole l (at_start bytes) >>= finish r >>= λ x. Ok x.0

-- What a function returned, as view sees it, is what reading gives.
abbrev pub Gives : {X A E : Type 0} → (X → A) → Result A E → Result X E → Type 0
Gives view r (Ok x) = r ≡ Ok (view x)
Gives view r (Err e) = r ≡ Err e
