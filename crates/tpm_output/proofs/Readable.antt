-- What is in place and fits can be read back.
use Rattle.std.proofs.Common.{◌≡◌, ℕ, ◌<◌, Bool, true, false, List, [], ◌∷◌}
use Rattle.std.proofs.lemmas.Bool.{and_parts, ltb-true}
use Rattle.std.specs.List.{list_all}
use Rattle.std.specs.Prelude.{◌^◌, nat_lt}
use Rattle.tpm_output.specs.declared.mark.Shape.TheVariants as shape
use Rattle.tpm_output.specs.Marks.{Value, Word, Number, Hexadecimal, Digits, Bytes, Truth, Guid, Ascii, Utf16, PathName, Mark, Says, Opens, Part, Closes}
use Rattle.tpm_output.specs.Fits.{are_bytes, mark_fits, value_fits}
use Rattle.tpm_output.specs.Reading.{AreInPlace, IsName, IsPlain, IsWord}

abbrev pub all_fit : List Mark → Bool
all_fit = list_all mark_fits

abbrev pub AreBytes : List ℕ → Type 0
AreBytes [] = Unit {0}
AreBytes (x ∷ xs) = (x < 256) × AreBytes xs

abbrev pub IsSayable : Value → Type 0
IsSayable (Word w) = IsPlain w
IsSayable (Number n) = n < 2 ^ 64
IsSayable (Hexadecimal n) = Unit {0}
IsSayable (Digits n) = Unit {0}
IsSayable (Bytes bytes) = AreBytes bytes
IsSayable (Truth b) = Unit {0}
IsSayable (Guid guid) = AreBytes guid
IsSayable (Ascii text) = AreBytes text
IsSayable (Utf16 text) = AreBytes text
IsSayable (PathName name) = AreBytes name

-- The parts of a text stand in one, and nothing else does.
abbrev pub AreReadable : (in_text : Bool) → List Mark → Type 0
AreReadable false [] = Unit {0}
AreReadable true [] = ⊥
AreReadable false (Says name v ∷ ms) = IsName name × IsSayable v × AreReadable false ms
AreReadable false (Opens name shape.Text ∷ ms) = IsName name × AreReadable true ms
AreReadable false (Opens name s ∷ ms) = IsName name × AreReadable false ms
AreReadable false (Closes shape.Text ∷ ms) = ⊥
AreReadable false (Closes s ∷ ms) = AreReadable false ms
AreReadable false (Part v ∷ ms) = ⊥
AreReadable true (Part v ∷ ms) = IsSayable v × AreReadable true ms
AreReadable true (Closes shape.Text ∷ ms) = AreReadable false ms
AreReadable true (m ∷ ms) = ⊥

bytes_fit : (bytes : List ℕ) → are_bytes bytes ≡ true → AreBytes bytes
bytes_fit [] e = tt
bytes_fit (x ∷ xs) e =
    let both = and_parts (nat_lt x 256) (are_bytes xs) e in
    (ltb-true x 256 both.0, bytes_fit xs both.1)

sayable : (v : Value) → IsWord v → value_fits v ≡ true → IsSayable v
sayable (Word w) h e = h
sayable (Number n) h e = ltb-true n (2 ^ 64) e
sayable (Hexadecimal n) h e = tt
sayable (Digits n) h e = tt
sayable (Bytes bytes) h e = bytes_fit bytes e
sayable (Truth b) h e = tt
sayable (Guid guid) h e = bytes_fit guid e
sayable (Ascii text) h e = bytes_fit text e
sayable (Utf16 text) h e = bytes_fit text e
sayable (PathName name) h e = bytes_fit name e

rest_fits : (m : Mark) (ms : List Mark) → all_fit (m ∷ ms) ≡ true → (mark_fits m ≡ true) × (all_fit ms ≡ true)
rest_fits m ms e = and_parts (mark_fits m) (all_fit ms) e

pub readable : (in_text : Bool) (ms : List Mark) → AreInPlace in_text ms → all_fit ms ≡ true → AreReadable in_text ms
readable false [] h e = tt
readable true [] h e = absurd h
readable false (Says name v ∷ ms) h e =
    let fits = rest_fits (Says name v) ms e in
    (h.0, sayable v h.1 fits.0, readable false ms h.2 fits.1)
readable false (Opens name shape.Text ∷ ms) h e = (h.0, readable true ms h.1 (rest_fits (Opens name shape.Text) ms e).1)
readable false (Opens name shape.Object ∷ ms) h e = (h.0, readable false ms h.1 (rest_fits (Opens name shape.Object) ms e).1)
readable false (Opens name shape.List ∷ ms) h e = (h.0, readable false ms h.1 (rest_fits (Opens name shape.List) ms e).1)
readable false (Opens name shape.Words ∷ ms) h e = (h.0, readable false ms h.1 (rest_fits (Opens name shape.Words) ms e).1)
readable false (Closes shape.Text ∷ ms) h e = absurd h
readable false (Closes shape.Object ∷ ms) h e = readable false ms h (rest_fits (Closes shape.Object) ms e).1
readable false (Closes shape.List ∷ ms) h e = readable false ms h (rest_fits (Closes shape.List) ms e).1
readable false (Closes shape.Words ∷ ms) h e = readable false ms h (rest_fits (Closes shape.Words) ms e).1
readable false (Part v ∷ ms) h e = absurd h
readable true (Part v ∷ ms) h e =
    let fits = rest_fits (Part v) ms e in
    (sayable v h.0 fits.0, readable true ms h.1 fits.1)
readable true (Closes shape.Text ∷ ms) h e = readable false ms h (rest_fits (Closes shape.Text) ms e).1
readable true (Closes shape.Object ∷ ms) h e = absurd h
readable true (Closes shape.List ∷ ms) h e = absurd h
readable true (Closes shape.Words ∷ ms) h e = absurd h
readable true (Says name v ∷ ms) h e = absurd h
readable true (Opens name s ∷ ms) h e = absurd h
