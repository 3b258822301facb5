-- A list of allowed digests, as far as it has come.
use Rattle.std.proofs.Common.{◌≡◌, ◌<◌, ◌≤◌, ◌+◌, ◌-◌, ℕ, List, [], ◌∷◌, ◌++◌, Bool, true, false, Ok, Err, drop, length, take}
use Rattle.std.proofs.Common.{refl, ap, sym, ◌∙◌, arith, append_assoc}
use Rattle.std.proofs.lemmas.Bool.{eqb-true, le-ltb, lt-ltb}
use Rattle.std.proofs.lemmas.List.{append-nil, drop_more, length-append, length-drop, take-append-drop, take_all}
use Rattle.std.specs.Prelude.{OnOk, Result, is_ok, slice_index}
use Rattle.std.proofs.lemmas.List.Splits.{length-slice_split, slice_split-cons_no, slice_split-cons_yes}
use Rattle.std.specs.List.{onto_first, slice_split}
use Rattle.tpm_output.specs.InputLines.{most_bytes}
use Rattle.tpm_lists.specs.declared.allow_file.AllowFile.TheVariants.{TooLong}
use Rattle.tpm_lists.specs.AllowFiles.{list_said, said_by}
use Rattle.tpm_lists.specs.AllowLines.{AllowRead, allowed_in, is_feed}
use Rattle.tpm_lists.specs.declared.allow_file.EndedLines.{EndedLines}
use Rattle.tpm_lists.specs.declared.allow_file.ListReader.{ListReader}
use Rattle.tpm_lists.specs.inner.ListReading.{IsRead, ReadsOn, said_with}
use Rattle.tpm_lists.specs.inner.AllowReading.{behind_these}

-- ---- lines behind lines

onto_both : (x : ℕ) (ps qs : List (List ℕ)) → 0 < length ps → onto_first x (ps ++ qs) ≡ onto_first x ps ++ qs
onto_both x [] qs some = absurd (omega (arith, some))
onto_both x (p ∷ ps) qs some = refl

split_both : (xs ys : List ℕ) → slice_split is_feed (xs ++ 10 ∷ ys) ≡ slice_split is_feed xs ++ slice_split is_feed ys
split_both [] ys = slice_split-cons_yes is_feed 10 ys refl
split_both (x ∷ xs) ys = go (is_feed x) refl (split_both xs ys)
  where
    go : (b : Bool) → is_feed x ≡ b → slice_split is_feed (xs ++ 10 ∷ ys) ≡ slice_split is_feed xs ++ slice_split is_feed ys
        → slice_split is_feed (x ∷ (xs ++ 10 ∷ ys)) ≡ slice_split is_feed (x ∷ xs) ++ slice_split is_feed ys
    go true is rest =
        slice_split-cons_yes is_feed x (xs ++ 10 ∷ ys) is
        ∙ ap (λ (l : List (List ℕ)). [] ∷ l) rest
        ∙ ap (λ (l : List (List ℕ)). l ++ slice_split is_feed ys) (sym (slice_split-cons_yes is_feed x xs is))
    go false isnt rest =
        let some : 0 < length (slice_split is_feed xs) = omega (arith, length-slice_split is_feed xs) in
        slice_split-cons_no is_feed x (xs ++ 10 ∷ ys) isnt
        ∙ ap (onto_first x) rest
        ∙ onto_both x (slice_split is_feed xs) (slice_split is_feed ys) some
        ∙ ap (λ (l : List (List ℕ)). l ++ slice_split is_feed ys) (sym (slice_split-cons_no is_feed x xs isnt))

-- a piece around a line feed
pub cut_at_feed : (piece : List ℕ) (at : ℕ) → at < length piece → is_feed (slice_index piece at) ≡ true
    → take at piece ++ 10 ∷ take (length piece - (at + 1)) (drop (at + 1) piece) ≡ piece
cut_at_feed piece at inside is =
    let behind : take (length piece - (at + 1)) (drop (at + 1) piece) ≡ drop (at + 1) piece =
    take_all (length piece - (at + 1)) (drop (at + 1) piece) (omega (arith, length-drop (at + 1) piece)) in
    let byte : slice_index piece at ≡ 10 = eqb-true (slice_index piece at) 10 is in
    rw behind
    (ap (λ (b : ℕ). take at piece ++ b ∷ drop (at + 1) piece) (sym byte)
    ∙ ap (λ (l : List ℕ). take at piece ++ l) (sym (drop_more piece at 0 inside))
    ∙ take-append-drop at piece)

-- ---- what is said of them

pub is_too_long : (bytes : List ℕ) → most_bytes < length bytes → TooLong ≡ list_said bytes
is_too_long bytes long = rw (lt-ltb most_bytes (length bytes) long) refl

pub is_said : (bytes : List ℕ) (read : AllowRead) → length bytes ≤ most_bytes → allowed_in bytes ≡ read → said_by read ≡ list_said bytes
is_said bytes read fits is = rw (le-ltb most_bytes (length bytes) fits, is) refl

-- ---- what was read

-- no byte
behind_none : (read : AllowRead) → read ≡ behind_these [] read
behind_none (Ok digests) = refl
behind_none (Err number) = refl

pub none_read : (r : ListReader) → r.ended.number ≡ 0 → r.ended.is_wrong ≡ false → r.ended.found.items ≡ [] → r.held.items ≡ [] → IsRead [] r
none_read r number right none held = record {
  number = omega (arith, number, ap length held);
  few = omega (arith, ap length none);
  said = λ more. rw (right, none, number, held) (behind_none (allowed_in more));
}

module _ (bytes : List ℕ) (r : ListReader) (read : IsRead bytes r) where
  -- a piece without a line feed
  pub read_held : (s : ListReader) (piece : List ℕ) → s.ended ≡ r.ended → s.held.items ≡ r.held.items ++ piece → IsRead (bytes ++ piece) s
  read_held s piece same held = record {
    number = omega (arith, read.number, ap (λ (e : EndedLines). e.number) same, ap length held, length-append r.held.items piece, length-append bytes piece);
    few = rw same read.few;
    said = λ more. rw (same, held)
        (ap allowed_in (append_assoc bytes piece more)
        ∙ read.said (piece ++ more)
        ∙ ap (λ (l : List ℕ). said_with r.ended (slice_split is_feed l)) (sym (append_assoc r.held.items piece more)));
  }

  -- one with the end of a line
  pub read_ended : (s : ListReader) (first behind : List ℕ) → ReadsOn r.ended s.ended (r.held.items ++ first) → s.held.items ≡ behind
      → IsRead (bytes ++ (first ++ 10 ∷ behind)) s
  read_ended s first behind on held =
      let line = r.held.items ++ first in
      let whole = length-append bytes (first ++ 10 ∷ behind) in
      let sizes = length-append first (10 ∷ behind) in
      record {
        number = omega (arith, read.number, on.number, whole, sizes, length-append r.held.items first, ap length held);
        few = omega (arith, read.few, on.few);
        said = λ more. rw held
            (ap allowed_in (append_assoc bytes (first ++ 10 ∷ behind) more)
            ∙ read.said ((first ++ 10 ∷ behind) ++ more)
            ∙ ap (λ (l : List ℕ). said_with r.ended (slice_split is_feed l))
            (ap (λ (l : List ℕ). r.held.items ++ l) (append_assoc first (10 ∷ behind) more) ∙ sym (append_assoc r.held.items first (10 ∷ (behind ++ more))))
            ∙ ap (said_with r.ended) (split_both line (behind ++ more))
            ∙ on.said (slice_split is_feed (behind ++ more)));
      }

  -- the end
  pub all_read : (e : EndedLines) → ReadsOn r.ended e r.held.items → allowed_in bytes ≡ said_with e []
  all_read e on =
      ap allowed_in (sym (append-nil bytes))
      ∙ read.said []
      ∙ ap (λ (l : List ℕ). said_with r.ended (slice_split is_feed l)) (append-nil r.held.items)
      ∙ ap (said_with r.ended) (sym (append-nil (slice_split is_feed r.held.items)))
      ∙ on.said []

-- where a request for memory isn't refused
pub where_done : {X E : Type 0} (r : Result X E) (P : Type 0) → (is_ok r ≡ true → P) → OnOk r P
where_done (Ok x) P done = done refl
where_done (Err e) P done = tt
