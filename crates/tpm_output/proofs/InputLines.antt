-- The lines of an input.
use Rattle.std.proofs.Common.{◌≡◌, ℕ, Bool, true, cond, ◌<◌, false, List, [], ◌∷◌, ◌++◌, length, refl, sym, ap, ◌∙◌}
use Rattle.std.proofs.Common.{inl, inr, arith, append_assoc}
use Rattle.std.proofs.lemmas.List.{append-nil}
use Rattle.std.specs.Prelude.{nat_eq}
use Rattle.tpm_output.specs.InputLines.{onto_first, lines_of, HasNoFeed, AreEnded}

pub no_feed-more : (line : List ℕ) (byte : ℕ) → HasNoFeed line → nat_eq byte 10 ≡ false → HasNoFeed (line ++ byte ∷ [])
no_feed-more [] byte f g = (g, tt)
no_feed-more (x ∷ line) byte f g = (f.0, no_feed-more line byte f.1 g)

-- a line that ends
pub ended_line : (line more : List ℕ) → HasNoFeed line → lines_of (line ++ 10 ∷ more) ≡ line ∷ lines_of more
ended_line [] more f = refl
ended_line (x ∷ line) more f = rw f.0 (ap (onto_first x) (ended_line line more f.1))

-- the last line
pub last_line : (x : ℕ) (line : List ℕ) → HasNoFeed (x ∷ line) → lines_of (x ∷ line) ≡ (x ∷ line) ∷ []
last_line x [] f = rw f.0 refl
last_line x (y ∷ line) f = rw f.0 (ap (onto_first x) (last_line y line f.1))

pub first_line : List (List ℕ) → List ℕ
first_line [] = []
first_line (first ∷ others) = first

pub other_lines : List (List ℕ) → List (List ℕ)
other_lines [] = []
other_lines (first ∷ others) = others

onto_first-parts : (x : ℕ) (lines : List (List ℕ)) → onto_first x lines ≡ (x ∷ first_line lines) ∷ other_lines lines
unfolding first_line other_lines
onto_first-parts x [] = refl
onto_first-parts x (first ∷ others) = refl

-- a line that goes on
pub longer_line : (line : List ℕ) (byte : ℕ) (more : List ℕ) → HasNoFeed line → nat_eq byte 10 ≡ false
    → lines_of (line ++ byte ∷ more) ≡ (line ++ byte ∷ first_line (lines_of more)) ∷ other_lines (lines_of more)
longer_line [] byte more f g = rw g (onto_first-parts byte (lines_of more))
longer_line (x ∷ line) byte more f g = rw f.0 (ap (onto_first x) (longer_line line byte more f.1 g))

onto_first-append : (x : ℕ) (ls ms : List (List ℕ)) → 0 < length ls → onto_first x (ls ++ ms) ≡ onto_first x ls ++ ms
onto_first-append x [] ms some = absurd (omega arith)
onto_first-append x (l ∷ ls) ms some = refl

onto_first-some : (x : ℕ) (ls : List (List ℕ)) → 0 < length (onto_first x ls)
onto_first-some x [] = omega arith
onto_first-some x (l ∷ ls) = omega arith

-- the lines of a byte and more, by whether the byte is a line feed
lines_by : Bool → ℕ → List (List ℕ) → List (List ℕ)
lines_by true x ls = [] ∷ ls
lines_by false x ls = onto_first x ls

lines_by-some : (b : Bool) (x : ℕ) (ls : List (List ℕ)) → 0 < length (lines_by b x ls)
unfolding lines_by
lines_by-some true x ls = omega arith
lines_by-some false x ls = onto_first-some x ls

lines_by-append : (b : Bool) (x : ℕ) (ls ms : List (List ℕ)) → 0 < length ls → lines_by b x (ls ++ ms) ≡ lines_by b x ls ++ ms
unfolding lines_by
lines_by-append true x ls ms some = refl
lines_by-append false x ls ms some = onto_first-append x ls ms some

lines_by-is : (b : Bool) (x : ℕ) (ls : List (List ℕ)) → cond b ([] ∷ ls) (onto_first x ls) ≡ lines_by b x ls
unfolding lines_by
lines_by-is true x ls = refl
lines_by-is false x ls = refl

lines_of-some : (before : List ℕ) → 0 < length (lines_of (before ++ 10 ∷ []))
lines_of-some [] = omega arith
lines_of-some (x ∷ before) = rw (lines_by-is (nat_eq x 10) x (lines_of (before ++ 10 ∷ []))) (lines_by-some (nat_eq x 10) x (lines_of (before ++ 10 ∷ [])))

append_ended : (before more : List ℕ) → lines_of ((before ++ 10 ∷ []) ++ more) ≡ lines_of (before ++ 10 ∷ []) ++ lines_of more
append_ended [] more = refl
append_ended (x ∷ before) more =
    let ls = lines_of (before ++ 10 ∷ []) in
    lines_by-is (nat_eq x 10) x (lines_of ((before ++ 10 ∷ []) ++ more))
    ∙ ap (lines_by (nat_eq x 10) x) (append_ended before more)
    ∙ lines_by-append (nat_eq x 10) x ls (lines_of more) (lines_of-some before)
    ∙ ap (λ (ls : List (List ℕ)). ls ++ lines_of more) (sym (lines_by-is (nat_eq x 10) x ls))

pub lines_of-append : (lines more : List ℕ) → AreEnded lines → lines_of (lines ++ more) ≡ lines_of lines ++ lines_of more
lines_of-append lines more (inl none) = rw none refl
lines_of-append lines more (inr some) = rw some.1 (append_ended some.0 more)

pub ended_both : (a b : List ℕ) → AreEnded a → AreEnded b → AreEnded (a ++ b)
ended_both a b f (inl none) = rw (none, append-nil a) f
ended_both a b f (inr some) = inr (a ++ some.0, rw some.1 (sym (append_assoc a some.0 (10 ∷ []))))
