-- One entry more of a selection.
use Rattle.std.proofs.Common.{◌≡◌, ◌≢◌, ℕ, zero, suc, List, [], ◌∷◌, ◌++◌, ◌<◌, ◌+◌, ◌-◌, ◌/◌, Bool, true, false}
use Rattle.std.proofs.Common.{length, take, map, get_or, refl, sym, ap, ◌∙◌, arith, length-append}
use Rattle.std.proofs.lemmas.Bool.Decides.{nat_tests}
use Rattle.std.proofs.lemmas.List.Elements.{filter-append}
use Rattle.std.proofs.lemmas.List.{take_more, map-append, length-map, append-nil, take-map, flat_map_more}
use Rattle.std.specs.Prelude.{filter, ◌==◌}
use Rattle.tpm_types.specs.declared.alg.Alg.{Alg}
use Rattle.tpm_types.specs.declared.tpms.Selection.{Selection}
use Rattle.tpm_types.specs.Tpms.{is_selected}
use Rattle.tpm_pcr.specs.Registers.{all_registers, selected_by, selected_values, select_of, first_selected}
use Rattle.tpm_pcr.specs.inner.Select.{registers_of, chosen, bits_of, first_of}
use Rattle.tpm_pcr.proofs.Stands.{AreRegisters, are_registers}

-- ---- lists

take_parts : {A : Type 0} (m : ℕ) (xs ys : List A) → take m (xs ++ ys) ≡ take m xs ++ take (m - length (take m xs)) ys
take_parts zero xs ys = refl
take_parts (suc m) [] ys = ap (λ (k : ℕ). take k ys) (let e : suc m ≡ suc m - 0 = omega arith in e)
take_parts {A} (suc m) (x ∷ xs) ys =
    let left : m - length (take m xs) ≡ suc m - suc (length (take m xs)) = omega arith in
    ap (λ (l : List A). x ∷ l) (take_parts m xs ys ∙ ap (λ (k : ℕ). take m xs ++ take k ys) left)

-- how much room is left after as much as there is room for
room_left : {A : Type 0} (m : ℕ) (xs : List A) → m - length (take m xs) ≡ m - length xs
room_left zero xs = omega arith
room_left (suc m) [] = refl
room_left (suc m) (x ∷ xs) = omega (arith, room_left m xs)

-- ---- the bytes of an entry

-- Each of these registers has its bit in this byte.
abbrev InByte : ℕ → List ℕ → Type 0
InByte b [] = Unit {0}
InByte b (q ∷ qs) = (q / 8 ≡ b) × InByte b qs

in_filter : (p : ℕ → Bool) (b : ℕ) (qs : List ℕ) → InByte b qs → InByte b (filter p qs)
in_filter p b [] h = tt
in_filter p b (q ∷ qs) h =
    elim (p q) as (λ t. p q ≡ t → InByte b (filter p (q ∷ qs))) [ true ↦ λ t. rw t (h.0, in_filter p b qs h.1) | false ↦ λ t. rw t (in_filter p b qs h.1) ] refl

in_take : (m b : ℕ) (qs : List ℕ) → InByte b qs → InByte b (take m qs)
in_take zero b qs h = tt
in_take (suc m) b [] h = tt
in_take (suc m) b (q ∷ qs) h = (h.0, in_take m b qs h.1)

in_chosen : (n b : ℕ) (select : List ℕ) → InByte b (chosen n select (registers_of b))
in_chosen n b select = in_take (8 - n) b (filter (is_selected select) (registers_of b)) (in_filter (is_selected select) b (registers_of b)
    (omega arith, (omega arith, (omega arith, (omega arith, (omega arith, (omega arith, (omega arith, (omega arith, tt)))))))))

kept : (b : ℕ) (qs : List ℕ) → InByte b qs → filter (λ q. q / 8 == b) qs ≡ qs
kept b [] h = refl
kept b (q ∷ qs) h = let t : (q / 8 == b) ≡ true = grind (arith, nat_tests, h.0) in rw t (ap (λ (l : List ℕ). q ∷ l) (kept b qs h.1))

dropped : (b c : ℕ) (qs : List ℕ) → b ≢ c → InByte b qs → filter (λ q. q / 8 == c) qs ≡ []
dropped b c [] n h = refl
dropped b c (q ∷ qs) n h = let t : (q / 8 == c) ≡ false = grind (arith, nat_tests, h.0, n) in rw t (dropped b c qs n h.1)

-- the registers of three bytes, of which those of one are taken
of_three : (b : ℕ) (x y z : List ℕ)
    → filter (λ q. q / 8 == b) (x ++ (y ++ z)) ≡ filter (λ q. q / 8 == b) x ++ (filter (λ q. q / 8 == b) y ++ filter (λ q. q / 8 == b) z)
of_three b x y z = filter-append (λ q. q / 8 == b) x (y ++ z) ∙ ap (λ (l : List ℕ). filter (λ q. q / 8 == b) x ++ l) (filter-append (λ q. q / 8 == b) y z)

select_is : (x y z : List ℕ) → InByte 0 x → InByte 1 y → InByte 2 z → select_of (x ++ (y ++ z)) ≡ bits_of x ∷ bits_of y ∷ bits_of z ∷ []
select_is x y z hx hy hz =
    rw (
      of_three 0 x y z,
      of_three 1 x y z,
      of_three 2 x y z,
      kept 0 x hx,
      dropped 1 0 y (omega arith) hy,
      dropped 2 0 z (omega arith) hz,
      dropped 0 1 x (omega arith) hx,
      kept 1 y hy,
      dropped 2 1 z (omega arith) hz,
      dropped 0 2 x (omega arith) hx,
      dropped 1 2 y (omega arith) hy,
      kept 2 z hz,
      append-nil x,
      append-nil y,
    ) refl

-- what is chosen of an entry is what is chosen of its bytes in turn
pub chosen_is : (n : ℕ) (s : Selection) (n1 n2 : ℕ) → n1 ≡ n + length (chosen n s.select (registers_of 0))
    → n2 ≡ n1 + length (chosen n1 s.select (registers_of 1)) →
    first_of n s ≡ chosen n s.select (registers_of 0) ++ (chosen n1 s.select (registers_of 1) ++ chosen n2 s.select (registers_of 2))
chosen_is n s n1 n2 e1 e2 =
    let p = is_selected s.select in
    let f0 = filter p (registers_of 0) in
    let f1 = filter p (registers_of 1) in
    let f2 = filter p (registers_of 2) in
    let left1 : 8 - n - length (take (8 - n) f0) ≡ 8 - n1 = omega (arith, e1) in
    let left2 : 8 - n1 - length (take (8 - n1) f1) ≡ 8 - n2 = omega (arith, e2) in
    ap (take (8 - n))
    (filter-append p (registers_of 0) (registers_of 1 ++ registers_of 2) ∙ ap (λ (l : List ℕ). f0 ++ l) (filter-append p (registers_of 1) (registers_of 2)))
    ∙ take_parts (8 - n) f0 (f1 ++ f2)
    ∙ ap (λ (l : List ℕ). take (8 - n) f0 ++ l)
    (ap (λ (m : ℕ). take m (f1 ++ f2)) left1 ∙ take_parts (8 - n1) f1 f2 ∙ ap (λ (m : ℕ). take (8 - n1) f1 ++ take m f2) left2)

pub select_of_first : (n : ℕ) (s : Selection) (n1 n2 : ℕ) → n1 ≡ n + length (chosen n s.select (registers_of 0))
    → n2 ≡ n1 + length (chosen n1 s.select (registers_of 1)) →
    select_of (first_of n s)
    ≡ bits_of (chosen n s.select (registers_of 0)) ∷ bits_of (chosen n1 s.select (registers_of 1)) ∷ bits_of (chosen n2 s.select (registers_of 2)) ∷ []
select_of_first n s n1 n2 e1 e2 =
    ap select_of (chosen_is n s n1 n2 e1 e2)
    ∙ select_is (chosen n s.select (registers_of 0)) (chosen n1 s.select (registers_of 1)) (chosen n2 s.select (registers_of 2)) (in_chosen n 0 s.select)
    (in_chosen n1 1 s.select) (in_chosen n2 2 s.select)

pub map_three : (value : ℕ → List ℕ) (x y z : List ℕ) → map value (x ++ (y ++ z)) ≡ map value x ++ (map value y ++ map value z)
map_three value x y z = map-append value x (y ++ z) ∙ ap (λ (l : List (List ℕ)). map value x ++ l) (map-append value y z)

-- ---- the entries of a list

abbrev read_entry : ℕ → Selection → Selection
read_entry n s = record { hash = s.hash; select = select_of (first_of n s) }

first_more : (value : Alg → ℕ → List ℕ) (left : ℕ) (xs : List Selection) (s : Selection) →
    first_selected left (xs ++ s ∷ [])
    ≡ first_selected left xs ++ record { hash = s.hash; select = select_of (take (left - length (selected_values value xs)) (selected_by s)) } ∷ []
first_more value left [] s =
    ap (λ (m : ℕ). record { hash = s.hash; select = select_of (take m (selected_by s)) } ∷ []) (let k : left ≡ left - 0 = omega arith in k)
first_more value left (x ∷ xs) s =
    let used : left - length (selected_by x) - length (selected_values value xs) ≡ left - length (selected_values value (x ∷ xs)) =
    omega (arith, length-append (map (value x.hash) (selected_by x)) (selected_values value xs), length-map (selected_by x) (value x.hash)) in
    ap (λ (l : List Selection). record { hash = x.hash; select = select_of (take left (selected_by x)) } ∷ l)
    (first_more value (left - length (selected_by x)) xs s
    ∙ ap (λ (m : ℕ). first_selected (left - length (selected_by x)) xs ++ record { hash = s.hash; select = select_of (take m (selected_by s)) } ∷ []) used)

values_next : (value : Alg → ℕ → List ℕ) (xs : List Selection) (s : Selection)
    → selected_values value (xs ++ s ∷ []) ≡ selected_values value xs ++ map (value s.hash) (selected_by s)
values_next value xs s = sym (flat_map_more (λ (s : Selection). map (value s.hash) (selected_by s)) [] xs s)

-- n values were read of the entries before
pub entries_more : (value : Alg → ℕ → List ℕ) (xs : List Selection) (s : Selection) (n : ℕ) → n ≡ length (take 8 (selected_values value xs)) →
    (first_selected 8 (xs ++ s ∷ []) ≡ first_selected 8 xs ++ read_entry n s ∷ [])
    × (take 8 (selected_values value (xs ++ s ∷ [])) ≡ take 8 (selected_values value xs) ++ map (value s.hash) (first_of n s))
entries_more value xs s n e =
    let same : 8 - n ≡ 8 - length (selected_values value xs) = ap (λ (k : ℕ). 8 - k) e ∙ room_left 8 (selected_values value xs) in (
      first_more value 8 xs s ∙ ap (λ (m : ℕ). first_selected 8 xs ++ record { hash = s.hash; select = select_of (take m (selected_by s)) } ∷ []) (sym same),
      ap (take 8) (values_next value xs s) ∙ take_parts 8 (selected_values value xs) (map (value s.hash) (selected_by s))
          ∙ ap (λ (l : List (List ℕ)). take 8 (selected_values value xs) ++ l)
          (ap (λ (k : ℕ). take (8 - k) (map (value s.hash) (selected_by s))) (sym e) ∙ take-map (value s.hash) (8 - n) (selected_by s)),
    )

-- the same at a place of a list
next_is : (xs sels : List Selection) (i : ℕ) (d : Selection) → xs ≡ sels → i < length xs → take (i + 1) sels ≡ take i sels ++ get_or xs i d ∷ []
next_is xs sels i d same lt = ap (take (i + 1)) (sym same) ∙ take_more xs i d lt ∙ ap (λ (l : List Selection). take i l ++ get_or xs i d ∷ []) same

pub parts_next : (value : Alg → ℕ → List ℕ) (xs sels : List Selection) (i : ℕ) (d : Selection) (parts more : List (List ℕ)) → xs ≡ sels → i < length xs →
    parts ≡ selected_values value (take i sels) → more ≡ parts ++ map (value (get_or xs i d).hash) (selected_by (get_or xs i d))
    → more ≡ selected_values value (take (i + 1) sels)
parts_next value xs sels i d parts more same lt here is =
    is ∙ ap (λ (l : List (List ℕ)). l ++ map (value (get_or xs i d).hash) (selected_by (get_or xs i d))) here
    ∙ sym (ap (selected_values value) (next_is xs sels i d same lt) ∙ values_next value (take i sels) (get_or xs i d))

pub entries_next : (value : Alg → ℕ → List ℕ) (xs sels : List Selection) (i : ℕ) (d : Selection) (read : List Selection) (values more : List (List ℕ))
    (r : Selection)
    → xs ≡ sels → i < length xs →
    read ≡ first_selected 8 (take i sels) → values ≡ take 8 (selected_values value (take i sels)) → r ≡ read_entry (length values) (get_or xs i d) →
    more ≡ values ++ map (value (get_or xs i d).hash) (first_of (length values) (get_or xs i d)) →
    (read ++ r ∷ [] ≡ first_selected 8 (take (i + 1) sels)) × (more ≡ take 8 (selected_values value (take (i + 1) sels)))
entries_next value xs sels i d read values more r same lt here so_far is and =
    let s = get_or xs i d in
    let step = entries_more value (take i sels) s (length values) (ap length so_far) in
    let next = next_is xs sels i d same lt in (
      ap (λ (l : List Selection). l ++ r ∷ []) here ∙ ap (λ (x : Selection). first_selected 8 (take i sels) ++ x ∷ []) is ∙ sym step.0
          ∙ sym (ap (first_selected 8) next),
      and ∙ ap (λ (l : List (List ℕ)). l ++ map (value s.hash) (first_of (length values) s)) so_far ∙ sym step.1
          ∙ sym (ap (λ (l : List Selection). take 8 (selected_values value l)) next),
    )

-- ---- the same values

same_on : (v w : ℕ → List ℕ) (p : ℕ → Bool) (qs : List ℕ) → ((q : ℕ) → q < 24 → v q ≡ w q) → AreRegisters qs → map v (filter p qs) ≡ map w (filter p qs)
same_on v w p [] same below = refl
same_on v w p (q ∷ qs) same below = elim (p q) as (λ t. p q ≡ t → map v (filter p (q ∷ qs)) ≡ map w (filter p (q ∷ qs))) [
  | true ↦ λ t. rw t (ap (λ (x : List ℕ). x ∷ map v (filter p qs)) (same q below.0) ∙ ap (λ (l : List (List ℕ)). w q ∷ l) (same_on v w p qs same below.1))
  | false ↦ λ t. rw t (same_on v w p qs same below.1)
] refl

pub values_same : (v w : Alg → ℕ → List ℕ) (sels : List Selection) → ((alg : Alg) (q : ℕ) → q < 24 → v alg q ≡ w alg q)
    → selected_values v sels ≡ selected_values w sels
values_same v w [] same = refl
values_same v w (s ∷ sels) same =
    ap (λ (l : List (List ℕ)). l ++ selected_values v sels) (same_on (v s.hash) (w s.hash) (is_selected s.select) all_registers (same s.hash) are_registers)
    ∙ ap (λ (l : List (List ℕ)). map (w s.hash) (selected_by s) ++ l) (values_same v w sels same)
