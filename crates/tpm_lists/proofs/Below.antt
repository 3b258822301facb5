-- Each register that a list of allowed digests names is one of a bank.
use Rattle.std.proofs.Common.{◌≡◌, ◌<◌, ◌+◌, ℕ, Bool, true, false, eqb, List, [], ◌∷◌, length, Option, Some, None, Ok, Err, refl, sym, subst}
use Rattle.std.proofs.lemmas.Bool.{and_parts, eqb-true}
use Rattle.std.specs.Prelude.{◌||◌}
use Rattle.std.specs.List.{slice_split}
use Rattle.tpm_types.specs.declared.alg.Alg.{Alg}
use Rattle.tpm_types.specs.Alg.{alg_number, digest_len}
use Rattle.tpm_output.specs.Text.{bytes_in}
use Rattle.tpm_vouched.specs.declared.allowed.AllowedDigest.{AllowedDigest}
use Rattle.tpm_vouched.specs.Allowed.{is_for, names}
use Rattle.tpm_lists.specs.declared.allow_lines.AllowLine.TheVariants.{Allows, Nothing, Wrong}
use Rattle.tpm_lists.specs.declared.allow_lines.AllowLine.{AllowLine}
use Rattle.tpm_lists.specs.AllowLines.{AllowRead, allow_line, allowed_from, allowed_in, allowing, allowing_named, before_comment}
use Rattle.tpm_lists.specs.AllowLines.{is_blank, is_feed, with_allowed}
use Rattle.tpm_lists.specs.ListLines.{register_named}
use Rattle.tpm_lists.proofs.Registers.{named-below}

abbrev pub AreBelow : List AllowedDigest → Type 0
AreBelow [] = Unit {0}
AreBelow (a ∷ list) = (a.register < 24) × AreBelow list

abbrev IsBelow : AllowLine → Type 0
IsBelow (Allows a) = a.register < 24
IsBelow Nothing = Unit {0}
IsBelow Wrong = Unit {0}

abbrev AreReadBelow : AllowRead → Type 0
AreReadBelow (Ok list) = AreBelow list
AreReadBelow (Err number) = Unit {0}

bytes_below : (bank : Alg) (register : ℕ) → register < 24 → (o : Option (List ℕ)) → IsBelow (allowing bank register o)
bytes_below bank register less None = tt
bytes_below bank register less (Some bytes) = go (eqb (length bytes) (digest_len bank)) refl
  where
    go : (b : Bool) → eqb (length bytes) (digest_len bank) ≡ b → IsBelow (allowing bank register (Some bytes))
    go true is = rw is less
    go false is = rw is tt

words_below : (bank : Option Alg) (word digits : List ℕ) → IsBelow (allowing_named bank (register_named word) digits)
words_below None word digits = tt
words_below (Some bank) word digits = go (register_named word) refl
  where
    go : (o : Option ℕ) → register_named word ≡ o → IsBelow (allowing_named (Some bank) o digits)
    go None is = tt
    go (Some register) is = bytes_below bank register (named-below (Some register) word (sym is)) (bytes_in digits)

line_below : (line : List ℕ) → IsBelow (allow_line line)
line_below line = go (is_blank (before_comment line)) refl
  where
    go : (b : Bool) → is_blank (before_comment line) ≡ b → IsBelow (allow_line line)
    go true is = rw is tt
    go false is = rw is (words_below _ _ _)

with_below : (n : ℕ) (line : AllowLine) (read : AllowRead) → IsBelow line → AreReadBelow read → AreReadBelow (with_allowed n line read)
with_below n (Allows a) (Ok list) first others = (first, others)
with_below n (Allows a) (Err number) first others = tt
with_below n Nothing read first others = others
with_below n Wrong read first others = tt

lines_below : (n : ℕ) (lines : List (List ℕ)) → AreReadBelow (allowed_from n lines)
lines_below n [] = tt
lines_below n (line ∷ lines) = with_below n (allow_line line) (allowed_from (n + 1) lines) (line_below line) (lines_below (n + 1) lines)

pub list_below : (allow : List ℕ) (list : List AllowedDigest) → allowed_in allow ≡ Ok list → AreBelow list
list_below allow list is = subst AreReadBelow is (lines_below 1 (slice_split is_feed allow))

-- Each register that a list names is one of a bank.
pub named_below : (list : List AllowedDigest) → AreBelow list → (bank : Alg) (register : ℕ) → names list bank register ≡ true → register < 24
named_below [] below bank register named = absurd (let z : ⊥ = cc in z)
named_below (a ∷ list) below bank register named = go (named_below list below.1 bank register) (is_for bank register a) refl named
  where
    go : (names list bank register ≡ true → register < 24) → (b : Bool) → is_for bank register a ≡ b → (b || names list bank register) ≡ true
        → register < 24
    go more true is e =
        let same = eqb-true a.register register (and_parts (eqb (alg_number a.digest.0) (alg_number bank)) (eqb a.register register) is).1 in
        subst (λ (q : ℕ). q < 24) same below.0
    go more false is e = more e
