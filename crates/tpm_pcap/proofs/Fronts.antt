-- What stands at the front of bytes, whatever comes behind them.
use Rattle.std.proofs.Common.{◌≡◌, ◌⊎◌, ℕ, ◌-◌, ◌≤◌, ◌<◌, ◌==◌, Bool, true, false, List, ◌++◌, length, take, drop}
use Rattle.std.proofs.Common.{cond, Result, Ok, Err, inl, inr, refl, arith, length-append}
use Rattle.std.proofs.lemmas.Bool.{cases_lt, le-ltb, lt-ltb}
use Rattle.std.proofs.lemmas.Bool.Decides.{nat_tests}
use Rattle.std.proofs.lemmas.List.{drop-append-le, take-append-le}
use Rattle.std.specs.Int.{Width, byte_len, w32}
use Rattle.std.specs.Prelude.{not, unwrap_or}
use Rattle.tpm_pcap.specs.declared.entry.Reason.TheVariants.{CutShort, Malformed}
use Rattle.tpm_pcap.specs.declared.entry.Reason.{Reason}
use Rattle.tpm_pcap.specs.declared.file.Format.TheVariants.{Savefile, Pcapng}
use Rattle.tpm_pcap.specs.declared.file.Format.{Format}
use Rattle.tpm_pcap.specs.declared.numbers.Order.TheVariants.{Big}
use Rattle.tpm_pcap.specs.declared.numbers.Order.{Order}
use Rattle.tpm_pcap.specs.Blocks.{Block, Read}
use Rattle.tpm_pcap.specs.Files.{next_in}
use Rattle.tpm_pcap.specs.Numbers.{◌>>=◌, cut, field, number}
use Rattle.tpm_pcap.specs.Pcapng.{block_by, framed, is_length, order_of, told_in}
use Rattle.tpm_pcap.specs.Savefiles.{record_in}

-- ---- fields

pub cut_is : (n : ℕ) (xs : List ℕ) → n ≤ length xs → cut n xs ≡ Ok (take n xs, drop n xs)
unfolding cut
cut_is n xs le = rw (le-ltb (length xs) n le) refl

pub cut_front : (n : ℕ) (xs ys : List ℕ) → n ≤ length xs → cut n (xs ++ ys) ≡ Ok (take n xs, drop n xs ++ ys)
cut_front n xs ys le =
    rw (cut_is n (xs ++ ys) (omega (arith, le, length-append xs ys)), take-append-le n xs ys le, drop-append-le n xs ys le) refl

cut_short : (n : ℕ) (xs : List ℕ) → length xs < n → cut n xs ≡ Err CutShort
unfolding cut
cut_short n xs lt = rw (lt-ltb (length xs) n lt) refl

pub field_is : (order : Order) (w : Width) (xs : List ℕ) → byte_len w ≤ length xs
    → field order w xs ≡ Ok (number order w (take (byte_len w) xs), drop (byte_len w) xs)
unfolding field
field_is order w xs le = rw (cut_is (byte_len w) xs le) refl

pub field_front : (order : Order) (w : Width) (xs ys : List ℕ) → byte_len w ≤ length xs
    → field order w (xs ++ ys) ≡ Ok (number order w (take (byte_len w) xs), drop (byte_len w) xs ++ ys)
unfolding field
field_front order w xs ys le = rw (cut_front (byte_len w) xs ys le) refl

field_short : (order : Order) (w : Width) (xs : List ℕ) → length xs < byte_len w → field order w xs ≡ Err CutShort
unfolding field
field_short order w xs lt = rw (cut_short (byte_len w) xs lt) refl

-- It is cut short, or the same whatever comes behind.
abbrev pub Kept : {A : Type 0} → Result A Reason → Result A Reason → Type 0
Kept x y = (x ≡ Err CutShort) ⊎ (y ≡ x)

cut_kept : {A : Type 0} (n : ℕ) (xs ys : List ℕ) (f : List ℕ × List ℕ → Result A Reason)
    → ((front rest : List ℕ) → Kept (f (front, rest)) (f (front, rest ++ ys))) → Kept (cut n xs >>= f) (cut n (xs ++ ys) >>= f)
cut_kept n xs ys f kept =
    elim (cases_lt (length xs) n) [
      | inl lt ↦ inl (rw (cut_short n xs lt) refl)
      | inr le ↦ rw (cut_is n xs le, cut_front n xs ys le) (kept (take n xs) (drop n xs))
    ]

field_kept : {A : Type 0} (order : Order) (w : Width) (xs ys : List ℕ) (f : ℕ × List ℕ → Result A Reason)
    → ((n : ℕ) (rest : List ℕ) → Kept (f (n, rest)) (f (n, rest ++ ys))) → Kept (field order w xs >>= f) (field order w (xs ++ ys) >>= f)
field_kept order w xs ys f kept =
    elim (cases_lt (length xs) (byte_len w)) [
      | inl lt ↦ inl (rw (field_short order w xs lt) refl)
      | inr le ↦ rw (field_is order w xs le, field_front order w xs ys le) (kept (number order w (take (byte_len w) xs)) (drop (byte_len w) xs))
    ]

then_kept : {A B : Type 0} (x y : Result A Reason) (f g : A → Result B Reason) → Kept x y → ((a : A) → Kept (f a) (g a)) → Kept (x >>= f) (y >>= g)
then_kept x y f g (inl e) kept = inl (rw e refl)
then_kept (Ok a) y f g (inr e) kept = rw e (kept a)
then_kept (Err reason) y f g (inr e) kept = inr (rw e refl)

either_kept : {A : Type 0} (test : Bool) (x y z : Result A Reason) → Kept y z → Kept (cond test x y) (cond test x z)
either_kept true x y z kept = inr refl
either_kept false x y z kept = kept

-- ---- the next of either format

record_kept : (order : Order) (xs ys : List ℕ) → Kept (record_in order xs) (record_in order (xs ++ ys))
unfolding record_in
record_kept order xs ys =
    field_kept order w32 xs ys _ (λ seconds rest. field_kept order w32 rest ys _ (λ units rest. field_kept order w32 rest ys _ (λ captured rest.
    field_kept order w32 rest ys _ (λ size rest. cut_kept captured rest ys _ (λ packet rest. inr refl)))))

pub order_kept : (xs ys : List ℕ) → Kept (order_of xs) (order_of (xs ++ ys))
unfolding order_of
order_kept xs ys =
    field_kept Big w32 xs ys _ (λ kind rest. field_kept Big w32 rest ys _ (λ size rest. field_kept Big w32 rest ys _ (λ magic rest. inr refl)))

block_kept : (order : Order) (xs ys : List ℕ) → Kept (block_by order xs) (block_by order (xs ++ ys))
unfolding block_by
block_kept order xs ys =
    field_kept order w32 xs ys _ (λ kind rest. field_kept order w32 rest ys _ (λ size rest. either_kept (not (is_length size)) (Err Malformed) _ _
    (cut_kept (size - 12) rest ys _ (λ body rest. field_kept order w32 rest ys _ (λ again rest. inr refl)))))

next_kept : (format : Format) (order : Order) (xs ys : List ℕ) → Kept (next_in format order xs) (next_in format order (xs ++ ys))
next_kept Savefile order xs ys = record_kept order xs ys
next_kept Pcapng order xs ys = then_kept (order_of xs) (order_of (xs ++ ys)) _ _ (order_kept xs ys) (λ o. block_kept (unwrap_or o order) xs ys)

pub next_behind : (format : Format) (order : Order) (xs ys : List ℕ) → (next_in format order xs ≡ Err CutShort → ⊥)
    → next_in format order (xs ++ ys) ≡ next_in format order xs
next_behind format order xs ys whole = elim (next_kept format order xs ys) [ inl short ↦ absurd (whole short) | inr same ↦ same ]

-- It has a byte at least.
abbrev pub IsSome : Read → Type 0
IsSome (Ok b) = 0 < b.size
IsSome (Err reason) = Unit {0}

then_some : {A : Type 0} (x : Result A Reason) (f : A → Read) → ((a : A) → IsSome (f a)) → IsSome (x >>= f)
then_some (Ok a) f some = some a
then_some (Err reason) f some = tt

either_some : (test : Bool) (x y : Read) → IsSome x → (test ≡ false → IsSome y) → IsSome (cond test x y)
either_some true x y f g = f
either_some false x y f g = g refl

framed_some : (n : ℕ) (block : Result Block Reason) → 0 < n → IsSome (framed n block)
framed_some n (Err reason) some = tt
framed_some n (Ok block) some = some

block_some : (order : Order) (xs : List ℕ) → IsSome (block_by order xs)
unfolding block_by
block_some order xs =
    then_some (field order w32 xs) _ (λ kind. then_some (field order w32 kind.1) _ (λ size. either_some (not (is_length size.0)) (Err Malformed) _ tt (λ long.
    then_some (cut (size.0 - 12) size.1) _ (λ body. then_some (field order w32 body.1) _ (λ again. either_some (again.0 == size.0) _ (Err Malformed)
    (framed_some size.0 (told_in order kind.0 body.0) (grind (arith, nat_tests, long))) (λ _. tt))))))

record_some : (order : Order) (xs : List ℕ) → IsSome (record_in order xs)
unfolding record_in
record_some order xs =
    then_some (field order w32 xs) _ (λ seconds. then_some (field order w32 seconds.1) _ (λ units. then_some (field order w32 units.1) _ (λ captured.
    then_some (field order w32 captured.1) _ (λ size. then_some (cut captured.0 size.1) _ (λ packet. omega arith)))))

pub next_some : (format : Format) (order : Order) (xs : List ℕ) → IsSome (next_in format order xs)
next_some Savefile order xs = record_some order xs
next_some Pcapng order xs = then_some (order_of xs) _ (λ o. block_some (unwrap_or o order) xs)
