-- Registers that stand at a list of changes.
use Rattle.std.proofs.Common.{◌≡◌, ℕ, ◌+◌, ◌%◌, ◌^◌, ◌<◌, suc, List, [], ◌∷◌, length, map, refl, sym, ap, ◌∙◌, arith}
use Rattle.std.proofs.lemmas.List.FromFn.{get_or-map-range_with_len}
use Rattle.tpm_types.specs.declared.alg.Alg.TheVariants.{Sha1}
use Rattle.tpm_types.specs.declared.alg.Alg.{Alg}
use Rattle.tpm_types.specs.Alg.{all_algs}
use Rattle.tpm_pcr.specs.Registers.Change.{Extend}
use Rattle.tpm_pcr.specs.Registers.{Change, value_by, register_value, all_registers, banks_of, value_in, updates_by}
use Rattle.tpm_pcr.specs.Registers.{update_counter, Registers, registers_after}
use Rattle.tpm_pcr.specs.Banks.{value_at}
use Rattle.tpm_pcr.specs.inner.Banks.{Holds, changed}

-- the value of a register is the one at its place
pub value_in-banks : (value : Alg → ℕ → List ℕ) (a : Alg) (q : ℕ) → q < 24 → value_in (banks_of value) a q ≡ value a q
unfolding banks_of
value_in-banks value Sha1 q lt = get_or-map-range_with_len (value Sha1) 0 24 q q [] lt (omega arith)
value_in-banks value a q lt = get_or-map-range_with_len (value a) 0 24 q q [] lt (omega arith)

abbrev pub AreRegisters : List ℕ → Type 0
AreRegisters [] = Unit {0}
AreRegisters (q ∷ qs) = (q < 24) × AreRegisters qs

pub are_registers : AreRegisters all_registers
are_registers = (
  omega arith,
  (
    omega arith,
    (
      omega arith,
      (
        omega arith,
        (
          omega arith,
          (
            omega arith,
            (
              omega arith,
              (
                omega arith,
                (
                  omega arith,
                  (
                    omega arith,
                    (
                      omega arith,
                      (
                        omega arith,
                        (
                          omega arith,
                          (
                            omega arith,
                            (
                              omega arith,
                              (
                                omega arith,
                                (
                                  omega arith,
                                  (omega arith, (omega arith, (omega arith, (omega arith, (omega arith, (omega arith, (omega arith, tt))))))),
                                ),
                              ),
                            ),
                          ),
                        ),
                      ),
                    ),
                  ),
                ),
              ),
            ),
          ),
        ),
      ),
    ),
  ),
)

each_same : (v w : ℕ → List ℕ) (qs : List ℕ) → ((q : ℕ) → q < 24 → v q ≡ w q) → AreRegisters qs → map v qs ≡ map w qs
each_same v w [] same below = refl
each_same v w (q ∷ qs) same below = ap (λ (x : List ℕ). x ∷ map v qs) (same q below.0) ∙ ap (λ (l : List (List ℕ)). w q ∷ l) (each_same v w qs same below.1)

banks_same : (v w : Alg → ℕ → List ℕ) (algs : List Alg) → ((a : Alg) (q : ℕ) → q < 24 → v a q ≡ w a q)
    → map (λ a. map (v a) all_registers) algs ≡ map (λ a. map (w a) all_registers) algs
banks_same v w [] same = refl
banks_same v w (a ∷ algs) same =
    ap (λ (x : List (List ℕ)). x ∷ map (λ a. map (v a) all_registers) algs) (each_same (v a) (w a) all_registers (same a) are_registers)
    ∙ ap (λ (l : List (List (List ℕ))). map (w a) all_registers ∷ l) (banks_same v w algs same)

-- banks with the same values are the same
pub banks_of-same : (v w : Alg → ℕ → List ℕ) → ((a : Alg) (q : ℕ) → q < 24 → v a q ≡ w a q) → banks_of v ≡ banks_of w
unfolding banks_of
banks_of-same v w same = banks_same v w all_algs same

-- bytes that hold the values after some changes, after one more
pub stands_more : (c : Change) (cs : List Change) (old new : List ℕ) → Holds new (changed c old) → banks_of (value_at old) ≡ banks_of (register_value cs)
    → banks_of (value_at new) ≡ banks_of (register_value (c ∷ cs))
stands_more c cs old new step before =
    let was : (a : Alg) (q : ℕ) → q < 24 → value_at old a q ≡ register_value cs a q =
    λ a q lt.
    sym (value_in-banks (value_at old) a q lt) ∙ ap (λ (b : List (List (List ℕ))). value_in b a q) before ∙ value_in-banks (register_value cs) a q lt in
    banks_of-same (value_at new) (register_value (c ∷ cs)) (λ a q lt. step a q lt ∙ ap (value_by a q c) (was a q lt))

-- ---- the whole

abbrev pub as_held : List ℕ → ℕ → Registers
as_held bytes n = record { banks = banks_of (value_at bytes); update_counter = n }

same_registers : (b c : List (List (List ℕ))) (n m : ℕ) (r : Registers) → b ≡ c → n ≡ m → r ≡ record { banks = c; update_counter = m }
    → record { banks = b; update_counter = n } ≡ r
same_registers b c n m r banks counter is =
    ap (λ (x : List (List (List ℕ))). let r : Registers = record { banks = x; update_counter = n } in r) banks
    ∙ ap (λ (x : ℕ). let r : Registers = record { banks = c; update_counter = x } in r) counter ∙ sym is

-- registers that have just been started
pub started_stands : (cs : List Change) (bytes : List ℕ) → Holds bytes (register_value cs) → update_counter cs ≡ 0 → as_held bytes 0 ≡ registers_after cs
started_stands cs bytes holds none =
    same_registers (banks_of (value_at bytes)) (banks_of (register_value cs)) 0 (update_counter cs) (registers_after cs)
    (banks_of-same (value_at bytes) (register_value cs) holds) (sym none) refl

-- registers that stand at some changes, after one more
pub stands : (c : Change) (cs : List Change) (held : Registers) (old new : List ℕ) (n m : ℕ) → as_held old n ≡ held → held ≡ registers_after cs
    → Holds new (changed c old) →
    (n ≡ update_counter cs → m ≡ update_counter (c ∷ cs)) → as_held new m ≡ registers_after (c ∷ cs)
stands c cs held old new n m view was step counted =
    let before = view ∙ was in
    same_registers (banks_of (value_at new)) (banks_of (register_value (c ∷ cs))) m (update_counter (c ∷ cs)) (registers_after (c ∷ cs))
    (stands_more c cs old new step (ap (λ (r : Registers). r.banks) before)) (counted (ap (λ (r : Registers). r.update_counter) before)) refl

pub next_count : (n u : ℕ) → n ≡ u % 2 ^ 32 → (n + 1) % 4294967296 ≡ suc u % 2 ^ 32
next_count n u is = omega (arith, is)

pub counts : (q : ℕ) (ds : List (Alg × List ℕ)) (u : ℕ) → 0 < length ds → updates_by (Extend q ds) u ≡ suc u
counts q [] u some = absurd (omega (arith, some))
counts q (d ∷ ds) u some = refl

pub counts_none : (q : ℕ) (ds : List (Alg × List ℕ)) (u : ℕ) → length ds ≡ 0 → updates_by (Extend q ds) u ≡ u
counts_none q [] u none = refl
counts_none q (d ∷ ds) u none = absurd (omega (arith, none))

-- the value at its place is the one that is held
pub held_at : (held : Registers) (bytes : List ℕ) (n : ℕ) → as_held bytes n ≡ held → (a : Alg) (q : ℕ) → q < 24 → value_at bytes a q ≡ value_in held.banks a q
held_at held bytes n view a q lt = sym (value_in-banks (value_at bytes) a q lt) ∙ ap (λ (r : Registers). value_in r.banks a q) view
