-- Every refusal has a code that is not 0, and that four bytes spell.
use Rattle.std.proofs.Common.{◌≡◌, ℕ, zero, suc, ◌+◌, ◌-◌, ◌<◌, ◌^◌, List, [], ◌∷◌, ◌++◌, length, take, Result, Ok, Err}
use Rattle.std.proofs.Common.{Option, Some, None, Bool, true, false, ◌&&◌, arith, length-append}
use Rattle.std.specs.Prelude.{◌==◌, nat_lt, nat_le, if◌then◌else◌}
use Rattle.tpm_wire.specs.declared.refusal.Refusal.{Refusal}
use Rattle.tpm_wire.specs.Token.{Here, past, at_start, number_of, or_fault}
use Rattle.tpm_wire.specs.Layout.Form.{done, number, text, field, area, list, by_left, marked}
use Rattle.tpm_wire.specs.Reading.{read, read_all, finish, refuse, unless, found, entries, ◌>>=◌}
use Rattle.tpm_wire.specs.Buffers.{buffer, Layout, number_in, too_few}
use Rattle.tpm_wire.specs.ResponseCodes.{rc_insufficient, rc_size}
use Rattle.tpm_wire.specs.Structures.{sized_bytes, sized, counted}

-- a fault, before a number is added
abbrev pub IsCode : ℕ → Type 0
IsCode n = (0 < n) × (n < 2 ^ 16)

-- what is answered
abbrev pub IsAnswered : ℕ → Type 0
IsAnswered n = (0 < n) × (n < 2 ^ 32)

abbrev pub IfFault : {A : Type 0} → Result A ℕ → Type 0
IfFault (Ok x) = Unit {0}
IfFault (Err n) = IsCode n

-- Each fault of the layout is a code, and each number that it adds is small.
abbrev pub IsCoded : {A : Type 0} → Layout A → Type 0
IsCoded (done x) = Unit {0}
IsCoded (number width meaning number_for fault) = (left n : ℕ) → IfFault (or_fault (meaning left n) fault)
IsCoded (text n judge text_for) = (bytes : List ℕ) → IfFault (judge bytes)
IsCoded (field get l f) = IsCoded l × ((x : _) → IsCoded (f x))
IsCoded (area n fault l) = IsCode fault × IsCoded l
IsCoded (list most stops l) = (before : List _) → length before < most → IsCoded (l before)
IsCoded (by_left f) = (left : ℕ) → IsCoded (f left)
IsCoded (marked n l) = (n < 2 ^ 16) × IsCoded l

abbrev pub IfRefused : {A : Type 0} → Result A Refusal → Type 0
IfRefused (Ok x) = Unit {0}
IfRefused (Err e) = IsAnswered e.code

with_added : (n mark : ℕ) → IsCode n → mark < 2 ^ 16 → IsAnswered (n + mark)
with_added n mark c m = (omega (arith, c.0), omega (arith, c.1, m))

goes_on : {A B : Type 0} (r : Result A Refusal) (f : A → Result B Refusal) → IfRefused r → ((x : A) → IfRefused (f x)) → IfRefused (r >>= f)
goes_on (Ok x) f c d = d x
goes_on (Err e) f c d = c

not_lacking : {A : Type 0} (mark at n left : ℕ) (h : Here) (next : Result A Refusal) → mark < 2 ^ 16 → IfRefused next
    → IfRefused (unless buffer (too_few mark at n left) mark h next)
not_lacking mark at n left h next m c = go (nat_lt left n)
  where
    go : (b : Bool) → IfRefused (unless buffer (if b then Some rc_insufficient else None) mark h next)
    go true = with_added rc_insufficient mark (omega arith, omega arith) m
    go false = c

judged : {A : Type 0} (r : Result A ℕ) (n mark : ℕ) (h : Here) → mark < 2 ^ 16 → IfFault r → IfRefused (found buffer r n mark h)
judged (Ok x) n mark h m c = tt
judged (Err fault) n mark h m c = with_added fault mark c m

or_stop : {A : Type 0} (stop : Bool) (here more : Result (List A × Here) Refusal) → IfRefused here → IfRefused more → IfRefused (if stop then here else more)
or_stop true here more c d = c
or_stop false here more c d = d

each_entry : {A : Type 0} (most n : ℕ) (before : List A) (stops : Bool) (one : List A → Here → Result (A × Here) Refusal) → length before + n ≡ most
    → ((b : List A) (h : Here) → length b < most → IfRefused (one b h)) → (h : Here) → IfRefused (entries n before stops one h)
each_entry most zero before stops one room c h = tt
each_entry most (suc n) before stops one room c h =
    or_stop (stops && length h.rest == 0) (Ok (before, h)) (one before h >>= λ x. entries n (before ++ x.0 ∷ []) stops one x.1) tt
    (goes_on (one before h) _ (c before h (omega (arith, room)))
    (λ x. each_entry most n (before ++ x.0 ∷ []) stops one (omega (arith, room, length-append before (x.0 ∷ []))) c x.1))

at_end : {A : Type 0} (done : Bool) (x : A × Here) (fault mark : ℕ) (h : Here) → mark < 2 ^ 16 → IsCode fault
    → IfRefused (if done then Ok x else refuse buffer mark fault h)
at_end true x fault mark h m c = tt
at_end false x fault mark h m c = with_added fault mark c m

-- A coded layout refuses with a code.
pub read_coded : {A : Type 0} (mark : ℕ) (l : Layout A) (h : Here) → mark < 2 ^ 16 → IsCoded l → IfRefused (read mark l h)
read_coded mark (done x) h m c = tt
read_coded mark (number width meaning number_for fault) h m c =
    let n = number_of (take width h.rest) in
    let left = length h.rest - width in
    not_lacking mark h.at width (length h.rest) h (found buffer (or_fault (meaning left n) fault) width mark h) m
    (judged (or_fault (meaning left n) fault) width mark h m (c left n))
read_coded mark (text n judge text_for) h m c =
    not_lacking mark h.at n (length h.rest) h (found buffer (judge (take n h.rest)) n mark h) m (judged (judge (take n h.rest)) n mark h m (c (take n h.rest)))
read_coded mark (field get l f) h m c =
    goes_on (read mark l h) (λ x. read mark (f x.0) x.1) (read_coded mark l h m c.0) (λ x. read_coded mark (f x.0) x.1 m (c.1 x.0))
read_coded mark (area n fault l) h m c =
    let inside : Here = record { rest = take n h.rest; at = h.at } in
    not_lacking mark h.at n (length h.rest) h (read mark l inside >>= λ x. if length x.1.rest == 0 then Ok (x.0, past n h) else refuse buffer mark fault x.1) m
    (goes_on (read mark l inside) _ (read_coded mark l inside m c.1) (λ x. at_end (length x.1.rest == 0) (x.0, past n h) fault mark x.1 m c.0))
read_coded mark (list most stops l) h m c =
    each_entry most most [] stops (λ before. read mark (l before)) (omega arith) (λ before g room. read_coded mark (l before) g m (c before room)) h
read_coded mark (by_left f) h m c = read_coded mark (f (length h.rest)) h m (c (length h.rest))
read_coded mark (marked n l) h m c = read_coded n l h c.0 c.1

pub read_all_coded : {A : Type 0} (l : Layout A) (bytes : List ℕ) → IsCoded l → IfRefused (read_all l bytes)
read_all_coded l bytes c =
    goes_on (read 0 l (at_start bytes) >>= finish buffer) (λ x. Ok x.0)
    (goes_on (read 0 l (at_start bytes)) (finish buffer) (read_coded 0 l (at_start bytes) (omega arith) c)
    (λ x. at_end (length x.1.rest == 0) x rc_size 0 x.1 (omega arith) (omega arith, omega arith)))
    (λ x. tt)

-- ---- kinds of layouts

of_set : (b : Bool) (n code : ℕ) → IsCode code → IfFault (or_fault (if b then Some n else None) code)
of_set true n code c = tt
of_set false n code c = c

pub coded_in : (width : ℕ) (set : ℕ → Bool) (code : ℕ) → IsCode code → IsCoded (number_in width set code)
coded_in width set code c = λ left n. of_set (set n) n code c

of_meaning : {A : Type 0} (o : Option A) (code : ℕ) → IsCode code → IfFault (or_fault o code)
of_meaning None code c = c
of_meaning (Some x) code c = tt

pub coded_number : {A : Type 0} (meaning : ℕ → ℕ → Option A) (code : ℕ) → IsCode code → (left n : ℕ) → IfFault (or_fault (meaning left n) code)
coded_number meaning code c left n = of_meaning (meaning left n) code c

pub coded_sized_bytes : (most : ℕ) → IsCoded (sized_bytes most)
unfolding sized_bytes
coded_sized_bytes most = (coded_in 2 (λ n. nat_le n most) rc_size (omega arith, omega arith), λ n bytes. tt)

pub coded_sized : {A : Type 0} (most : ℕ) (l : Layout A) → IsCoded l → IsCoded (sized most l)
unfolding sized
coded_sized most l c = (coded_in 2 (λ n. nat_le n most) rc_size (omega arith, omega arith), λ n. ((omega arith, omega arith), c))

pub coded_counted : {A : Type 0} (least most : ℕ) (l : Layout A) → IsCoded l → IsCoded (counted least most l)
unfolding counted
coded_counted least most l c = (coded_in 4 (λ n. nat_le least n && nat_le n most) rc_size (omega arith, omega arith), λ n before room. c)
