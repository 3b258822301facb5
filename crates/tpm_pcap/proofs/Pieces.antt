-- Blocks that come in pieces.
use Rattle.std.proofs.Common.{◌≡◌, ◌⊎◌, ℕ, ◌+◌, ◌≤◌, ◌<◌, ◌==◌, Bool, true, false, List, [], ◌∷◌, ◌++◌, length, drop}
use Rattle.std.proofs.Common.{None, Ok, Err, inl, inr, refl, ap, sym, ◌∙◌, arith, append_assoc, length-append, length-drop}
use Rattle.std.proofs.lemmas.Bool.{eqb-true, ne_eqb}
use Rattle.std.proofs.lemmas.List.{append-nil, drop-append-le, drop-drop, nil_from_length}
use Rattle.std.specs.Prelude.{zero, suc}
use Rattle.tpm_pcap.specs.declared.entry.Reason.TheVariants.{CutShort, Malformed, UnknownLink, Fragment, SentAgain, OutOfOrder, NoMessage, Unfinished}
use Rattle.tpm_pcap.specs.declared.entry.Reason.{Reason}
use Rattle.tpm_pcap.specs.declared.file.Format.{Format}
use Rattle.tpm_pcap.specs.Blocks.{Framed, Read}
use Rattle.tpm_pcap.specs.Entries.{Entry, Untold}
use Rattle.tpm_pcap.specs.Files.{FilePlace, Reader, after_block, blocks_told, ended, entries_from, left_told, most_told, next_in}
use Rattle.tpm_pcap.specs.Files.{read_told}
use Rattle.tpm_pcap.specs.inner.Files.{Come, GoesOn, TakesBlocks, may_go_on}
use Rattle.tpm_pcap.proofs.Few.{unfinished_few}
use Rattle.tpm_pcap.proofs.Fronts.{IsSome, next_behind, next_some}
use Rattle.tpm_pcap.proofs.Reading.{at_most_one, ends, goes, stops}

-- ---- There are never more blocks than bytes.

read_same : (r : Reader) (read : Read) → IsSome read → (f g : Reader → ℕ → List Entry) → ((after : Reader) (size : ℕ) → 0 < size → f after size ≡ g after size)
    → read_told r read f ≡ read_told r read g
read_same r (Err reason) some f g same = refl
read_same r (Ok b) some f g same =
    let after = after_block r b.block in ap (λ (others : List Entry). after.1 ++ others) (same after.0 b.size some)

enough : (format : Format) (m n : ℕ) (r : Reader) (xs : List ℕ) → length xs ≤ m → length xs ≤ n → entries_from format m r xs ≡ entries_from format n r xs
enough format m n r [] a b = ends format m r [] refl ∙ sym (ends format n r [] refl)
enough format zero n r (x ∷ xs) a b = absurd (omega (arith, a))
enough format (suc m) zero r (x ∷ xs) a b = absurd (omega (arith, b))
enough format (suc m) (suc n) r (x ∷ xs) a b =
    let some : (length (x ∷ xs) == 0) ≡ false = ne_eqb (length (x ∷ xs)) 0 (λ e. omega (arith, e)) in
    rw some (read_same r (next_in format r.section.order (x ∷ xs)) (next_some format r.section.order (x ∷ xs))
    (λ (after : Reader) (size : ℕ). entries_from format m after (drop size (x ∷ xs)))
    (λ (after : Reader) (size : ℕ). entries_from format n after (drop size (x ∷ xs)))
    (λ after size any. enough format m n after (drop size (x ∷ xs)) (omega (arith, a, any, length-drop size (x ∷ xs)))
    (omega (arith, b, any, length-drop size (x ∷ xs)))))

-- ---- a block that has come whole

some_behind : (xs ys : List ℕ) → 0 < length xs → (length (xs ++ ys) == 0) ≡ false
some_behind xs ys some = ne_eqb (length (xs ++ ys)) 0 (λ e. omega (arith, some, e, length-append xs ys))

not_cut : (format : Format) (r : Reader) (xs : List ℕ) (b : Framed) → next_in format r.section.order xs ≡ Ok b
    → next_in format r.section.order xs ≡ Err CutShort → ⊥
not_cut format r xs b is cut = let no : ⊥ = cc (is, cut) in no

one_told : (format : Format) (r : Reader) (xs ys : List ℕ) (b : Framed) → next_in format r.section.order xs ≡ Ok b → 0 < b.size → b.size ≤ length xs
    → blocks_told format r (xs ++ ys) ≡ (after_block r b.block).1 ++ blocks_told format (after_block r b.block).0 (drop b.size xs ++ ys)
one_told format r xs ys b is some le =
    let after = after_block r b.block in
    let behind = next_behind format r.section.order xs ys (not_cut format r xs b is) ∙ is in
    let g = goes format (length (xs ++ ys)) r (xs ++ ys) b (omega arith) (some_behind xs ys (omega (arith, some, le))) behind in
    g.told ∙ ap (λ (others : List Entry). after.1 ++ others)
    (ap (λ (zs : List ℕ). entries_from format g.fewer after.0 zs) (drop-append-le b.size xs ys le)
    ∙ enough format g.fewer (length (drop b.size xs ++ ys)) after.0 (drop b.size xs ++ ys) (omega (
      arith,
      g.most_is,
      some,
      le,
      length-append xs ys,
      length-append (drop b.size xs) ys,
      length-drop b.size xs,
    )) (omega arith))

pub goes_none : (format : Format) (r : Reader) (bytes : List ℕ) (last : Bool)
    → GoesOn (record { format = format; old = r; bytes = bytes; last = last; new = r; told = [] }) 0
goes_none format r bytes last = record { fits = omega arith; left = λ rest. refl; few = omega arith; number = omega arith }

pub goes_more : (c : Come) (used : ℕ) (b : Framed) → GoesOn c used → next_in c.format c.new.section.order (drop used c.bytes) ≡ Ok b → 0 < b.size
    → b.size ≤ length (drop used c.bytes) → length (after_block c.new b.block).1 ≤ most_told
    → GoesOn (record c { new = (after_block c.new b.block).0; told = c.told ++ (after_block c.new b.block).1 }) (used + b.size)
goes_more c used b g is some le few = let after = after_block c.new b.block in record {
  fits = omega (arith, g.fits, le, length-drop used c.bytes);
  left = λ rest. g.left rest
      ∙ ap (λ (others : List Entry). c.told ++ others) (one_told c.format c.new (drop used c.bytes) rest b is some le
      ∙ ap (λ (zs : List ℕ). after.1 ++ blocks_told c.format after.0 (zs ++ rest)) (drop-drop b.size used c.bytes))
      ∙ sym (append_assoc c.told after.1 (blocks_told c.format after.0 (drop (used + b.size) c.bytes ++ rest)));
  few = omega (arith, g.few, few, some, length-append c.told after.1);
  number = omega (arith, g.number, some, at_most_one c.new b.block);
}

-- ---- a block that is not told

at_last : (last : Bool) (reason : Reason) (ys : List ℕ) → may_go_on last reason ≡ false → (last ≡ true → ys ≡ []) → (reason ≡ CutShort → ⊥) ⊎ (ys ≡ [])
at_last true CutShort ys stop f = inr (f refl)
at_last false CutShort ys stop f = absurd (let no : ⊥ = cc (stop) in no)
at_last last Malformed ys stop f = inl (λ e. let no : ⊥ = cc (e) in no)
at_last last UnknownLink ys stop f = inl (λ e. let no : ⊥ = cc (e) in no)
at_last last Fragment ys stop f = inl (λ e. let no : ⊥ = cc (e) in no)
at_last last SentAgain ys stop f = inl (λ e. let no : ⊥ = cc (e) in no)
at_last last OutOfOrder ys stop f = inl (λ e. let no : ⊥ = cc (e) in no)
at_last last NoMessage ys stop f = inl (λ e. let no : ⊥ = cc (e) in no)
at_last last Unfinished ys stop f = inl (λ e. let no : ⊥ = cc (e) in no)

pub not_last : (last : Bool) (reason : Reason) → may_go_on last reason ≡ true → last ≡ false
not_last true CutShort go = absurd (let no : ⊥ = cc (go) in no)
not_last false CutShort go = refl
not_last last Malformed go = absurd (let no : ⊥ = cc (go) in no)
not_last last UnknownLink go = absurd (let no : ⊥ = cc (go) in no)
not_last last Fragment go = absurd (let no : ⊥ = cc (go) in no)
not_last last SentAgain go = absurd (let no : ⊥ = cc (go) in no)
not_last last OutOfOrder go = absurd (let no : ⊥ = cc (go) in no)
not_last last NoMessage go = absurd (let no : ⊥ = cc (go) in no)
not_last last Unfinished go = absurd (let no : ⊥ = cc (go) in no)

fault_behind : (format : Format) (r : Reader) (xs ys : List ℕ) (reason : Reason) → next_in format r.section.order xs ≡ Err reason
    → (reason ≡ CutShort → ⊥) ⊎ (ys ≡ []) → next_in format r.section.order (xs ++ ys) ≡ Err reason
fault_behind format r xs ys reason is (inl other) =
    next_behind format r.section.order xs ys (λ cut. other (let same : reason ≡ CutShort = cc (is, cut) in same)) ∙ is
fault_behind format r xs ys reason is (inr none) = rw (none, append-nil xs) is

pub stop_told : (c : Come) (used : ℕ) (reason : Reason) → GoesOn c used → used < length c.bytes
    → next_in c.format c.new.section.order (drop used c.bytes) ≡ Err reason → may_go_on c.last reason ≡ false
    → TakesBlocks (record c { told = c.told ++ (Untold c.new.packet reason ∷ ended c.new) }) None
stop_told c used reason g some is stop =
    let xs = drop used c.bytes in
    let any : 0 < length xs = omega (arith, some, length-drop used c.bytes) in (
      λ rest end. g.left rest ∙ ap (λ (others : List Entry). c.told ++ others)
          (stops c.format (length (xs ++ rest)) c.new (xs ++ rest) reason (omega arith) (some_behind xs rest any)
          (fault_behind c.format c.new xs rest reason is (at_last c.last reason rest stop end))),
      omega (
        arith,
        g.few,
        g.fits,
        unfinished_few c.new.packet c.new.talk,
        length-append c.told (Untold c.new.packet reason ∷ ended c.new),
      ),
    )

-- ---- the end

pub end_told : (c : Come) (used : ℕ) → GoesOn c used → length c.bytes ≤ used → c.last ≡ true
    → TakesBlocks (record c { told = c.told ++ ended c.new }) None
end_told c used g all last = (
  λ rest end. g.left rest ∙ ap (λ (others : List Entry). c.told ++ others)
      (let none : length (drop used c.bytes ++ rest) ≡ 0 = rw (end last, append-nil (drop used c.bytes)) (omega (arith, all, length-drop used c.bytes)) in
      ends c.format (length (drop used c.bytes ++ rest)) c.new (drop used c.bytes ++ rest) (rw none refl)),
  omega (arith, g.few, g.fits, unfinished_few c.new.packet c.new.talk, length-append c.told (ended c.new)),
)

-- What is told of what is held and of a piece, and nothing behind it.
pub piece_ends : (old : FilePlace) (bytes piece : List ℕ) (last : Bool) (told : List Entry) → bytes ≡ old.held ++ piece → last ≡ (length piece == 0)
    → ((rest : List ℕ) → (last ≡ true → rest ≡ []) → blocks_told old.format old.reader (bytes ++ rest) ≡ told)
    → (rest : List ℕ) → (piece ≡ [] → rest ≡ []) → left_told old (piece ++ rest) ≡ told
piece_ends old bytes piece last told are is f rest end =
    ap (λ (l : List ℕ). blocks_told old.format old.reader l) (sym (ap (λ (l : List ℕ). l ++ rest) are ∙ append_assoc old.held piece rest))
    ∙ f rest (λ e. end (nil_from_length piece (eqb-true (length piece) 0 (sym is ∙ e))))
