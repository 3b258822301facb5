-- Two logs that a quote vouches for have the same values in the registers that it selects.
use Rattle.std.proofs.Common.{◌≡◌, ℕ, zero, suc, ◌+◌, ◌<◌, ◌≤◌, Bool, true, false, eqb, List, [], ◌∷◌, ◌++◌, length, map, filter, refl, sym, ap, subst, ◌∙◌}
use Rattle.std.proofs.Common.{arith}
use Rattle.std.proofs.Common.{inl, inr}
use Rattle.std.proofs.Common.{eq-eqb}
use Rattle.std.proofs.lemmas.Bool.{eqb-true}
use Rattle.std.proofs.lemmas.List.{map-append}
use Rattle.std.specs.Prelude.{◌&&◌, ◌||◌, flat_map, slice_index_or, if◌then◌else◌}
use Rattle.tpm_types.specs.declared.alg.Alg.TheVariants.{Sha1, Sha256, Sha384}
use Rattle.tpm_types.specs.declared.alg.Alg.{Alg}
use Rattle.tpm_types.specs.declared.attest.Attest.{Attest}
use Rattle.tpm_types.specs.declared.tpms.Selection.{Selection}
use Rattle.tpm_types.specs.Alg.{alg_number}
use Rattle.tpm_types.specs.Tpms.{is_selected}
use Rattle.tpm_wire.proofs.Whole.{exactly_one}
use Rattle.tpm_hmac.specs.Among.{IsAmong}
use Rattle.tpm_pcr.specs.Registers.{Change, Registers, register_value, registers_after, banks_of, value_in, all_registers, selected_by, selected_values}
use Rattle.tpm_hmac.proofs.Among.{among_front, among_later}
use Rattle.tpm_pcr.proofs.Stands.{value_in-banks}
use Rattle.tpm_quote.specs.declared.attest.NotSelected.{NotSelected}
use Rattle.tpm_quote.specs.Attests.{register_of, registers_of, is_among}
use Rattle.tpm_log.specs.declared.algorithm_size.AlgorithmSize.{AlgorithmSize}
use Rattle.tpm_log.specs.Logs.{log_rules}
use Rattle.tpm_log.specs.Records.{LogRecord, log}
use Rattle.tpm_log.specs.Changes.{log_changes}
use Rattle.tpm_vouched.specs.Extends.{value_left}
use Rattle.tpm_vouched.specs.Vouched.{AreApart, QuoteApart, QuotedLog, SameMeasured, quoted_text}
use Rattle.tpm_log.proofs.Rules.{log_sound}
use Rattle.tpm_vouched.proofs.Peeling.{same_front}
use Rattle.tpm_vouched.proofs.Same.{same_alg, same_measured}
use Rattle.tpm_vouched.proofs.ValueLengths.{of_value}

-- ---- the selected values, by their registers

abbrev Values : Type 0
Values = Alg → ℕ → List ℕ

abbrev value_of : Values → NotSelected → List ℕ
value_of v r = v r.bank r.register

abbrev joined : List (List ℕ) → List ℕ
joined = flat_map (λ x. x)

entry_values : (v : Values) (bank : Alg) (qs : List ℕ) → map (v bank) qs ≡ map (value_of v) (map (register_of bank) qs)
entry_values v bank [] = refl
entry_values v bank (q ∷ qs) = ap (λ (xs : List (List ℕ)). v bank q ∷ xs) (entry_values v bank qs)

all_values : (v : Values) (sels : List Selection) → selected_values v sels ≡ map (value_of v) (registers_of sels)
all_values v [] = refl
all_values v (s ∷ sels) =
    ap (λ (xs : List (List ℕ)). xs ++ selected_values v sels) (entry_values v s.hash (selected_by s))
    ∙ ap (λ (xs : List (List ℕ)). map (value_of v) (map (register_of s.hash) (selected_by s)) ++ xs) (all_values v sels)
    ∙ sym (map-append (value_of v) (map (register_of s.hash) (selected_by s)) (registers_of sels))

-- values of the same lengths, joined to the same bytes
each_same : (f g : NotSelected → List ℕ) (long : (r : NotSelected) → length (f r) ≡ length (g r)) (rs : List NotSelected)
    → joined (map f rs) ≡ joined (map g rs) → (r : NotSelected) → IsAmong r rs → f r ≡ g r
each_same f g long [] e r among = absurd among
each_same f g long (x ∷ rs) e r among =
    by (λ e later. each_same f g long rs e r later) (same_front (f x) (joined (map f rs)) (g x) (joined (map g rs)) (long x) e) among
  where
    by : (joined (map f rs) ≡ joined (map g rs) → IsAmong r rs → f r ≡ g r) → (f x ≡ g x) × (joined (map f rs) ≡ joined (map g rs))
        → IsAmong r (x ∷ rs) → f r ≡ g r
    by more both (inl same) = ap f same ∙ both.0 ∙ ap g (sym same)
    by more both (inr later) = more both.1 later

-- ---- a register among those that are selected

among_filter : (p : ℕ → Bool) (xs : List ℕ) (q : ℕ) → IsAmong q xs → p q ≡ true → IsAmong q (filter p xs)
among_filter p [] q among e = absurd among
among_filter p (x ∷ xs) q among e = go (λ later. among_filter p xs q later e) (p x) refl among
  where
    go : (IsAmong q xs → IsAmong q (filter p xs)) → (b : Bool) → p x ≡ b → IsAmong q (x ∷ xs)
        → IsAmong q (if b then x ∷ filter p xs else filter p xs)
    go more true is (inl same) = inl same
    go more true is (inr later) = inr (more later)
    go more false is (inl same) = absurd (let z : true ≡ false = sym e ∙ ap p same ∙ is in let w : ⊥ = cc in w)
    go more false is (inr later) = more later

among_map : (bank : Alg) (qs : List ℕ) (q : ℕ) → IsAmong q qs → IsAmong (register_of bank q) (map (register_of bank) qs)
among_map bank [] q among = absurd among
among_map bank (x ∷ qs) q (inl same) = inl (ap (register_of bank) same)
among_map bank (x ∷ qs) q (inr later) = inr (among_map bank qs q later)

-- so many numbers from the first one
abbrev rising : ℕ → ℕ → List ℕ
rising first zero = []
rising first (suc n) = first ∷ rising (suc first) n

there : (first n q : ℕ) → first ≤ q → q < first + n → IsAmong q (rising first n)
there first zero q least less = absurd (let z : ⊥ = omega (arith, least, less) in z)
there first (suc n) q least less = go (there (suc first) n q) (eqb q first) refl
  where
    go : (suc first ≤ q → q < suc first + n → IsAmong q (rising (suc first) n)) → (b : Bool) → eqb q first ≡ b
        → IsAmong q (rising first (suc n))
    go more true is = inl (eqb-true q first is)
    go more false is =
        let apart : q ≡ first → ⊥ = λ e. let z : true ≡ false = sym (eq-eqb q first e) ∙ is in let w : ⊥ = cc in w in
        inr (more (omega (arith, least, apart)) (omega (arith, less)))

is_there : (sels : List Selection) (bank : Alg) (q : ℕ) → q < 24 → is_among sels (register_of bank q) ≡ true
    → IsAmong (register_of bank q) (registers_of sels)
is_there [] bank q less e = absurd (let z : ⊥ = cc in z)
is_there (s ∷ sels) bank q less e = go (is_there sels bank q less) (eqb (alg_number s.hash) (alg_number bank)) refl (is_selected s.select q) refl e
  where
    go : (is_among sels (register_of bank q) ≡ true → IsAmong (register_of bank q) (registers_of sels))
        → (a : Bool) → eqb (alg_number s.hash) (alg_number bank) ≡ a → (b : Bool) → is_selected s.select q ≡ b
        → ((a && b) || is_among sels (register_of bank q)) ≡ true → IsAmong (register_of bank q) (registers_of (s ∷ sels))
    go more true bank_is true chosen e =
        let among = among_filter (is_selected s.select) all_registers q (there 0 24 q (omega arith) less) chosen in
        let r = among_map s.hash (selected_by s) q among in
        subst (λ (k : Alg). IsAmong (register_of k q) (registers_of (s ∷ sels))) (same_alg s.hash bank bank_is)
        (among_front (register_of s.hash q) (map (register_of s.hash) (selected_by s)) (registers_of sels) r)
    go more true bank_is false chosen e = among_later (register_of bank q) (map (register_of s.hash) (selected_by s)) (registers_of sels) (more e)
    go more false bank_is b chosen e = among_later (register_of bank q) (map (register_of s.hash) (selected_by s)) (registers_of sels) (more e)

-- ---- the values after two logs

row_long : (f g : ℕ → List ℕ) → ((q : ℕ) → length (f q) ≡ length (g q)) → (xs : List ℕ) (q : ℕ)
    → length (slice_index_or (map f xs) q []) ≡ length (slice_index_or (map g xs) q [])
row_long f g long [] q = refl
row_long f g long (x ∷ xs) zero = long x
row_long f g long (x ∷ xs) (suc q) = row_long f g long xs q

as_long : (cs ds : List Change) (a : Alg) (q : ℕ) → length (value_in (registers_after cs).banks a q) ≡ length (value_in (registers_after ds).banks a q)
unfolding banks_of
as_long cs ds Sha1 q = row_long (register_value cs Sha1) (register_value ds Sha1) (λ x. of_value cs Sha1 x ∙ sym (of_value ds Sha1 x)) all_registers q
as_long cs ds Sha256 q = row_long (register_value cs Sha256) (register_value ds Sha256) (λ x. of_value cs Sha256 x ∙ sym (of_value ds Sha256 x)) all_registers q
as_long cs ds Sha384 q = row_long (register_value cs Sha384) (register_value ds Sha384) (λ x. of_value cs Sha384 x ∙ sym (of_value ds Sha384 x)) all_registers q

-- the registers that a log leaves beside which the quote was asked for
left : (hash : Alg) (a : Attest) (l : QuotedLog hash a) → l.registers ≡ registers_after (log_changes l.read.records)
left hash a l =
    let r = l.replayed in
    let one : (r.0, r.1) ≡ (l.read.hashes, l.read.records) =
    (exactly_one log_rules log_sound log l.read.bytes).one_value (r.0, r.1) (l.read.hashes, l.read.records) r.2 l.read.spelled in
    r.3 ∙ ap (λ (x : List AlgorithmSize × List LogRecord). registers_after (log_changes x.1)) one

pub same_value : (bank hash : Alg) (a : Attest) (q : ℕ) (one other : QuotedLog hash a) → q < 24
    → is_among a.quote.selections (register_of bank q) ≡ true → QuoteApart hash a.quote.selections one.registers other.registers
    → value_left bank q one.read.records ≡ value_left bank q other.read.records
same_value bank hash a q one other less selected apart =
    let sels = a.quote.selections in
    let cs = log_changes one.read.records in
    let ds = log_changes other.read.records in
    let texts : quoted_text one.registers sels ≡ quoted_text other.registers sels =
    apart (quoted_text one.registers sels) (quoted_text other.registers sels) (inl refl) (inr (inl refl)) (one.accepted.2 ∙ sym other.accepted.2) in
    let by_one : joined (selected_values (value_in (registers_after cs).banks) sels) ≡ joined (selected_values (value_in (registers_after ds).banks) sels) =
    ap (λ (r : Registers). quoted_text r sels) (sym (left hash a one)) ∙ texts ∙ ap (λ (r : Registers). quoted_text r sels) (left hash a other) in
    let v : Values = value_in (registers_after cs).banks in
    let w : Values = value_in (registers_after ds).banks in
    let by_register : joined (map (value_of v) (registers_of sels)) ≡ joined (map (value_of w) (registers_of sels)) =
    ap joined (sym (all_values v sels)) ∙ by_one ∙ ap joined (all_values w sels) in
    let same : v bank q ≡ w bank q =
    each_same (value_of v) (value_of w) (λ r. as_long cs ds r.bank r.register) (registers_of sels) by_register
    (register_of bank q) (is_there sels bank q less selected) in
    sym (value_in-banks (register_value cs) bank q less) ∙ same ∙ value_in-banks (register_value ds) bank q less

pub same_quoted : (bank hash : Alg) (a : Attest) (q : ℕ) (one other : QuotedLog hash a) → q < 24
    → is_among a.quote.selections (register_of bank q) ≡ true → QuoteApart hash a.quote.selections one.registers other.registers
    → AreApart bank q one.read.records other.read.records → SameMeasured bank q one.read.records other.read.records
same_quoted bank hash a q one other less selected apart free =
    same_measured bank q one.read other.read (same_value bank hash a q one other less selected apart) free
