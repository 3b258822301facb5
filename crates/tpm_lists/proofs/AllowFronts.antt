-- What stands before the digits of a line of a list.
use Rattle.std.proofs.Common.{◌≡◌, ◌<◌, ◌+◌, ◌-◌, ◌∙◌, ℕ, zero, suc, Bool, true, false, List, [], ◌∷◌, ◌++◌, Option, None, Some, length}
use Rattle.std.proofs.Common.{take, drop, get_or, ap, sym, refl, arith, append_assoc, length-append}
use Rattle.std.specs.Prelude.{◌&&◌, ◌||◌}
use Rattle.std.proofs.lemmas.Bool.{and_parts, eqb-true}
use Rattle.std.proofs.lemmas.Grind.{common_steps}
use Rattle.std.proofs.lemmas.List.{append-nil, get_or_append_left, length-take-le, take-append-drop}
use Rattle.std.proofs.lemmas.List.Splits.{slice_split-cons_no}
use Rattle.std.proofs.lemmas.List.Sums.{fails_before_first, passes_at_first, position_or_len_is, split_at_first}
use Rattle.std.proofs.Math.Seq.{drop-append-add, get_or-append_seam, take-append_seam}
use Rattle.std.specs.List.{before_first, list_all, list_any, onto_first, position_or_len, slice_split}
use Rattle.hex.specs.Hex.{is_hex_digit}
use Rattle.tpm_types.specs.declared.alg.Alg.{Alg}
use Rattle.tpm_vouched.specs.declared.allowed.AllowedDigest.{AllowedDigest}
use Rattle.tpm_lists.specs.declared.allow_lines.AllowLine.TheVariants.{Allows, Wrong}
use Rattle.tpm_output.specs.Text.{bytes_in}
use Rattle.tpm_lists.specs.declared.allow_lines.Front.{Front}
use Rattle.tpm_lists.specs.inner.AllowReading.{IsFront, ends_word}
use Rattle.tpm_lists.proofs.Spelling.{other_byte, other_length, two_bytes}
use Rattle.tpm_lists.specs.AllowLines.{allow_line, allowing, allowing_in, allowing_named, before_comment, begins_comment, is_blank, is_feed}
use Rattle.tpm_lists.specs.ListLines.{bank_named, behind_word, first_word, is_space, register_named}

-- ---- bytes of which none passes a test

either : (a b : Bool) → (a || b) ≡ false → (a ≡ false) × (b ≡ false)
either true b is = absurd cc
either false b is = (refl, is)

module _ (test : ℕ → Bool) where
  pub none_in_first : (n : ℕ) (xs : List ℕ) → list_any test xs ≡ false → list_any test (take n xs) ≡ false
  none_in_first zero xs none = refl
  none_in_first (suc n) [] none = refl
  none_in_first (suc n) (x ∷ xs) none =
      let parts = either (test x) (list_any test xs) none in
      rw (parts.0) (none_in_first n xs parts.1)

  ends_there : (x : ℕ) (xs : List ℕ) → test x ≡ true → before_first test (x ∷ xs) ≡ []
  ends_there x xs is = rw is refl

  goes_on : (x : ℕ) (xs : List ℕ) → test x ≡ false → before_first test (x ∷ xs) ≡ x ∷ before_first test xs
  goes_on x xs isnt =
      let n = position_or_len test xs in
      let one : 1 + n ≡ suc n = omega arith in
      rw isnt (ap (λ (k : ℕ). take k (x ∷ xs)) one)

  pub none_before : (xs : List ℕ) → list_any test (before_first test xs) ≡ false
  none_before [] = refl
  none_before (x ∷ xs) = go (test x) refl (none_before xs)
    where
      go : (b : Bool) → test x ≡ b → list_any test (before_first test xs) ≡ false → list_any test (before_first test (x ∷ xs)) ≡ false
      go true is none = ap (list_any test) (ends_there x xs is)
      go false isnt none = ap (list_any test) (goes_on x xs isnt) ∙ ap (λ (b : Bool). b || list_any test (before_first test xs)) isnt ∙ none

  all_before : (xs ys : List ℕ) → list_any test xs ≡ false → before_first test (xs ++ ys) ≡ xs ++ before_first test ys
  all_before [] ys none = refl
  all_before (x ∷ xs) ys none =
      let parts = either (test x) (list_any test xs) none in
      goes_on x (xs ++ ys) parts.0 ∙ ap (λ (l : List ℕ). x ∷ l) (all_before xs ys parts.1)

  none_in_both : (xs ys : List ℕ) → list_any test xs ≡ false → list_any test ys ≡ false → list_any test (xs ++ ys) ≡ false
  none_in_both [] ys none nor = nor
  none_in_both (x ∷ xs) ys none nor =
      let parts = either (test x) (list_any test xs) none in
      rw (parts.0) (none_in_both xs ys parts.1 nor)

  split_behind : (xs ys part : List ℕ) (parts : List (List ℕ)) → list_any test xs ≡ false → slice_split test ys ≡ part ∷ parts
      → slice_split test (xs ++ ys) ≡ (xs ++ part) ∷ parts
  split_behind [] ys part parts none are = are
  split_behind (x ∷ xs) ys part parts none are =
      let no = either (test x) (list_any test xs) none in
      slice_split-cons_no test x (xs ++ ys) no.0 ∙ ap (onto_first x) (split_behind xs ys part parts no.1 are)

  -- nor a digit
  none_of_digits : (hit : ℕ) → ((c : ℕ) → test c ≡ true → c ≡ hit) → is_hex_digit hit ≡ false
      → (digits : List ℕ) → list_all is_hex_digit digits ≡ true → list_any test digits ≡ false
  none_of_digits hit only other [] all = refl
  none_of_digits hit only other (d ∷ digits) all =
      let parts = and_parts (is_hex_digit d) (list_all is_hex_digit digits) all in
      go (test d) refl parts.0 (none_of_digits hit only other digits parts.1)
    where
      go : (b : Bool) → test d ≡ b → is_hex_digit d ≡ true → list_any test digits ≡ false → (test d || list_any test digits) ≡ false
      go true is digit none = absurd (let z : true ≡ false = sym digit ∙ ap is_hex_digit (only d is) ∙ other in cc)
      go false isnt digit none = ap (λ (b : Bool). b || list_any test digits) isnt ∙ none

-- ---- a word with a space behind it

module _ (word rest : List ℕ) (none : (k : ℕ) → k < length word → is_space (get_or word k 0) ≡ false) where
  space_behind : position_or_len is_space (word ++ 32 ∷ rest) ≡ length word
  space_behind =
      position_or_len_is is_space (word ++ 32 ∷ rest) (length word) 0 (omega (arith, length-append word (32 ∷ rest)))
      (λ k less. ap is_space (get_or_append_left word (32 ∷ rest) 0 k less) ∙ none k less)
      (λ less. ap is_space (get_or-append_seam word 32 rest 0))

  is_word : first_word (word ++ 32 ∷ rest) ≡ word
  is_word = ap (λ (n : ℕ). take n (word ++ 32 ∷ rest)) space_behind ∙ take-append_seam word (32 ∷ rest)

  is_rest : behind_word (word ++ 32 ∷ rest) ≡ rest
  is_rest =
      ap (λ (n : ℕ). drop (n + 1) (word ++ 32 ∷ rest)) space_behind
      ∙ drop-append-add word (32 ∷ rest) 1

no_space : (text : List ℕ) (k : ℕ) → k < length (first_word text) → is_space (get_or (first_word text) k 0) ≡ false
no_space text k less = grind (arith, common_steps, fails_before_first is_space text k 0)

split : (text : List ℕ) → 0 < length (behind_word text) → text ≡ first_word text ++ 32 ∷ behind_word text
split text some =
    let less : position_or_len is_space text < length text = grind (arith, common_steps) in
    let space : get_or text (position_or_len is_space text) 0 ≡ 32 = eqb-true _ 32 (passes_at_first is_space text 0 less) in
    split_at_first is_space text 0 less ∙ ap (λ (b : ℕ). first_word text ++ b ∷ behind_word text) space

-- ---- two of them

pub without_digits : (text : List ℕ) → length (behind_word (behind_word text)) ≡ 0 → allowing_in text ≡ Wrong
without_digits text none =
    let behind = behind_word text in
    go (bank_named (first_word text)) (register_named (first_word behind)) (first_word (behind_word behind)) (grind (arith, common_steps))
  where
    go : (bank : Option Alg) (register : Option ℕ) (digits : List ℕ) → length digits ≡ 0 → allowing_named bank register digits ≡ Wrong
    go None register digits is = refl
    go (Some bank) None digits is = refl
    go (Some bank) (Some register) [] is = other_length bank register [] (λ same. omega (arith, same, two_bytes bank))
    go (Some bank) (Some register) (digit ∷ digits) is = absurd (omega (arith, is))

module _ (text : List ℕ) (some : length (behind_word (behind_word text)) ≡ 0 → ⊥) where
  abbrev front : List ℕ
  front = first_word text ++ 32 ∷ (first_word (behind_word text) ++ 32 ∷ [])

  in_front : (behind : List ℕ) → front ++ behind ≡ first_word text ++ 32 ∷ (first_word (behind_word text) ++ 32 ∷ behind)
  in_front behind =
      append_assoc (first_word text) _ behind
      ∙ ap (λ (l : List ℕ). first_word text ++ 32 ∷ l) (append_assoc (first_word (behind_word text)) (32 ∷ []) behind)

  whole : front ++ behind_word (behind_word text) ≡ text
  whole =
      in_front (behind_word (behind_word text))
      ∙ ap (λ (l : List ℕ). first_word text ++ 32 ∷ l) (sym (split (behind_word text) (omega (arith, some))))
      ∙ sym (split text (grind (arith, common_steps)))

  is_front : take (length text - length (behind_word (behind_word text))) text ≡ front
  is_front =
      let long : length front + length (behind_word (behind_word text)) ≡ length text = sym (length-append front _) ∙ ap length whole in
      let n : length text - length (behind_word (behind_word text)) ≡ length front = omega (arith, long) in
      ap (λ (l : List ℕ). take (length text - length (behind_word (behind_word text))) l) (sym whole)
      ∙ ap (λ (n : ℕ). take n (front ++ behind_word (behind_word text))) n ∙ take-append_seam front _

  pub front_tells : (bank : Alg) (register : ℕ) (behind : List ℕ) → bank_named (first_word text) ≡ Some bank
      → register_named (first_word (behind_word text)) ≡ Some register
      → allowing_in (take (length text - length (behind_word (behind_word text))) text ++ behind) ≡ allowing bank register (bytes_in (first_word behind))
  front_tells bank register behind one two =
      let second = first_word (behind_word text) ++ 32 ∷ behind in
      let all = first_word text ++ 32 ∷ second in
      let first : allowing_in all
      ≡ allowing_named (bank_named (first_word text)) (register_named (first_word second)) (first_word (behind_word second)) =
      ap (λ (l : List ℕ). allowing_named (bank_named l) (register_named (first_word (behind_word all))) (first_word (behind_word (behind_word all))))
      (is_word (first_word text) second (no_space text))
      ∙ ap (λ (l : List ℕ). allowing_named (bank_named (first_word text)) (register_named (first_word l)) (first_word (behind_word l)))
      (is_rest (first_word text) second (no_space text)) in
      let last : allowing_named (bank_named (first_word text)) (register_named (first_word second)) (first_word (behind_word second))
      ≡ allowing_named (bank_named (first_word text)) (register_named (first_word (behind_word text))) (first_word behind) =
      ap (λ (l : List ℕ). allowing_named (bank_named (first_word text)) (register_named l) (first_word (behind_word second)))
      (is_word (first_word (behind_word text)) behind (no_space (behind_word text)))
      ∙ ap (λ (l : List ℕ). allowing_named (bank_named (first_word text)) (register_named (first_word (behind_word text))) (first_word l))
      (is_rest (first_word (behind_word text)) behind (no_space (behind_word text))) in
      ap (λ (l : List ℕ). allowing_in (l ++ behind)) is_front ∙ ap allowing_in (in_front behind) ∙ first ∙ last ∙ rw (one, two) refl

  pub front_size : take (length (take (length text - length (behind_word (behind_word text))) text)) text
      ≡ take (length text - length (behind_word (behind_word text))) text
  front_size =
      let n = length text - length (behind_word (behind_word text)) in
      ap (λ (k : ℕ). take k text) (length-take-le n text (omega arith))

-- ---- behind it

pub behind_front : (front : Front) (text : List ℕ) → IsFront front → take (length front.text.now) text ≡ front.text.now
    → allowing front.bank front.register (bytes_in (first_word (drop (length front.text.now) text))) ≡ allowing_in text
behind_front front text tells begins =
    let n = length front.text.now in
    sym (tells.0 (drop n text))
    ∙ ap (λ (l : List ℕ). allowing_in (l ++ drop n text)) (sym begins)
    ∙ ap allowing_in (take-append-drop n text)

-- ---- a line that goes on with digits

second : (a b : Bool) → (a || b) ≡ true → b ≡ false → a ≡ true
second true b is isnt = refl
second false b is isnt = absurd (let z : true ≡ false = sym is ∙ isnt in cc)

no_space_in : (digits : List ℕ) → list_all is_hex_digit digits ≡ true → list_any is_space digits ≡ false
no_space_in = none_of_digits is_space 32 (λ c is. eqb-true c 32 is) refl

no_comment_in : (digits : List ℕ) → list_all is_hex_digit digits ≡ true → list_any begins_comment digits ≡ false
no_comment_in = none_of_digits begins_comment 35 (λ c is. eqb-true c 35 is) refl

no_word : (rest : List ℕ) → ends_word rest ≡ true → first_word (before_comment rest) ≡ []
no_word [] ends = refl
no_word (byte ∷ rest) ends = go (begins_comment byte) refl
  where
    go : (b : Bool) → begins_comment byte ≡ b → first_word (before_comment (byte ∷ rest)) ≡ []
    go true is = ap first_word (ends_there begins_comment byte rest is)
    go false isnt =
        ap first_word (goes_on begins_comment byte rest isnt)
        ∙ ends_there is_space byte (before_comment rest) (second (is_space byte) (begins_comment byte) ends isnt)

not_blank : (front digits rest : List ℕ) → 0 < length digits → list_all is_hex_digit digits ≡ true → is_blank (front ++ (digits ++ rest)) ≡ false
not_blank [] [] rest some all = absurd (omega (arith, some))
not_blank [] (d ∷ digits) rest some all =
    let none = either (is_space d) (list_any is_space digits) (no_space_in (d ∷ digits) all) in
    rw (none.0) refl
not_blank (byte ∷ front) digits rest some all = go (is_space byte) (not_blank front digits rest some all)
  where
    go : (b : Bool) → is_blank (front ++ (digits ++ rest)) ≡ false → (b && is_blank (front ++ (digits ++ rest))) ≡ false
    go true is = is
    go false is = refl

pub digits_behind : (front : Front) (digits rest : List ℕ) → IsFront front → 0 < length digits → list_all is_hex_digit digits ≡ true
    → ends_word rest ≡ true → allow_line (front.text.now ++ (digits ++ rest)) ≡ allowing front.bank front.register (bytes_in digits)
digits_behind front digits rest tells some all ends =
    let behind = digits ++ before_comment rest in
    let whole : before_comment (front.text.now ++ (digits ++ rest)) ≡ front.text.now ++ behind =
    all_before begins_comment front.text.now (digits ++ rest) tells.1
    ∙ ap (λ (l : List ℕ). front.text.now ++ l) (all_before begins_comment digits rest (no_comment_in digits all)) in
    let word : first_word behind ≡ digits =
    all_before is_space digits (before_comment rest) (no_space_in digits all)
    ∙ ap (λ (l : List ℕ). digits ++ l) (no_word rest ends) ∙ append-nil digits in
    rw (whole, not_blank front.text.now digits (before_comment rest) some all)
    (tells.0 behind ∙ ap (λ (l : List ℕ). allowing front.bank front.register (bytes_in l)) word)

module _ (bank : Alg) (register : ℕ) (digits : List ℕ) (a : AllowedDigest) (is : allowing bank register (bytes_in digits) ≡ Allows a) where
  not_wrong : allowing bank register (bytes_in digits) ≡ Wrong → ⊥
  not_wrong wrong = absurd (let z : Wrong ≡ Allows a = sym wrong ∙ is in cc z)

  some_digits : 0 < length digits
  some_digits = go digits refl
    where
      go : (ds : List ℕ) → digits ≡ ds → 0 < length digits
      go [] none = absurd (not_wrong (other_length bank register digits (λ same. omega (arith, same, ap length none, two_bytes bank))))
      go (d ∷ ds) some = let long = ap length some in omega (arith, long)

  all_digits : list_all is_hex_digit digits ≡ true
  all_digits = go (list_all is_hex_digit digits) refl
    where
      go : (b : Bool) → list_all is_hex_digit digits ≡ b → list_all is_hex_digit digits ≡ true
      go true all = all
      go false other = absurd (not_wrong (other_byte bank register digits other))

-- ---- a line that begins so, and goes on with digits to the end of a word

pub cut_behind : (n k : ℕ) (line behind digits rest : List ℕ) → behind ≡ drop n line → digits ≡ take k behind → rest ≡ drop k behind
    → drop n line ≡ digits ++ rest
cut_behind n k line behind digits rest is first last =
    sym is
    ∙ sym (take-append-drop k behind)
    ∙ ap (λ (l : List ℕ). l ++ drop k behind) (sym first)
    ∙ ap (λ (l : List ℕ). digits ++ l) (sym last)

no_feed_in : (digits : List ℕ) → list_all is_hex_digit digits ≡ true → list_any is_feed digits ≡ false
no_feed_in = none_of_digits is_feed 10 (λ c is. eqb-true c 10 is) refl

module _ (front : Front) (bytes digits rest : List ℕ) (a : AllowedDigest) (tells : IsFront front)
    (begins : take (length front.text.now) bytes ≡ front.text.now) (behind : drop (length front.text.now) bytes ≡ digits ++ rest)
    (is : allowing front.bank front.register (bytes_in digits) ≡ Allows a) where
  all : list_all is_hex_digit digits ≡ true
  all = all_digits front.bank front.register digits a is

  whole_line : bytes ≡ (front.text.now ++ digits) ++ rest
  whole_line =
      let n = length front.text.now in
      sym (take-append-drop n bytes) ∙ ap (λ (l : List ℕ). l ++ drop n bytes) begins ∙ ap (λ (l : List ℕ). front.text.now ++ l) behind
      ∙ sym (append_assoc front.text.now digits rest)

  none_in_it : list_any is_feed (front.text.now ++ digits) ≡ false
  none_in_it = none_in_both is_feed front.text.now digits tells.2 (no_feed_in digits all)

  first_line : before_first is_feed bytes ≡ (front.text.now ++ digits) ++ before_first is_feed rest
  first_line = ap (before_first is_feed) whole_line ∙ all_before is_feed (front.text.now ++ digits) rest none_in_it

  pub line_behind : ends_word (before_first is_feed rest) ≡ true → allow_line (before_first is_feed bytes) ≡ Allows a
  line_behind ends =
      ap allow_line (first_line ∙ append_assoc front.text.now digits (before_first is_feed rest))
      ∙ digits_behind front digits (before_first is_feed rest) tells (some_digits front.bank front.register digits a is) all ends
      ∙ is

  pub lines_behind : (lines : List (List ℕ)) → slice_split is_feed rest ≡ before_first is_feed rest ∷ lines
      → slice_split is_feed bytes ≡ before_first is_feed bytes ∷ lines
  lines_behind lines are =
      ap (slice_split is_feed) whole_line
      ∙ split_behind is_feed (front.text.now ++ digits) rest (before_first is_feed rest) lines none_in_it are
      ∙ ap (λ (l : List ℕ). l ∷ lines) (sym first_line)
