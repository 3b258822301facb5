-- Parameters that were read in their place, all of the bytes, are what the bytes are read as.
use Rattle.std.proofs.Common.{◌≡◌, ◌≤◌, Bool, true, false, cond, eqb, leb, List, ◌++◌, ℕ, length, take, Result, Ok, Err, refl, sym}
use Rattle.std.proofs.Common.{ap, ◌∙◌, arith}
use Rattle.std.proofs.lemmas.Bool.{and_parts, eqb-true, leb-true}
use Rattle.std.proofs.lemmas.List.{append-nil, nil_from_length, take_all}
use Rattle.std.specs.Prelude.{◌&&◌, OnOk}
use Rattle.tpm_wire.specs.declared.refusal.Refusal.{Refusal}
use Rattle.tpm_wire.specs.Token.{Here, at_start}
use Rattle.tpm_wire.specs.Reading.{read, read_all}
use Rattle.tpm_wire.specs.Path.{Decodes}
use Rattle.tpm_wire.specs.Buffers.{Place}
use Rattle.tpm_wire.specs.WholeValues.{ended, left_over}
use Rattle.tpm_wire.proofs.Agreement.{test_end}
use Rattle.tpm_wire.proofs.Alone.{whole_read, whole_refused, whole_is, whole_decodes}
use Rattle.tpm_types.specs.declared.command_code.CommandCode.{CommandCode}
use Rattle.tpm_commands.specs.declared.command.Params.{Params}
use Rattle.tpm_commands.specs.Limits.{most_params}
use Rattle.tpm_commands.specs.Parameters.{parameters, placed}
use Rattle.tpm_commands.proofs.EachCommand.{of_parameters}

abbrev begin : List ℕ → Place
begin bytes = record { here = at_start (take 4096 bytes); number = 0 }

-- parameters that were read in their place end where nothing does
ends_in_place : (p : Params) (bytes : List ℕ) (h : Here)
    → placed p (ended {A = Unit {0}} bytes (tt, h)) ≡ ended bytes (p, h)
ends_in_place p bytes h = go (eqb (length h.rest) 0 && leb (length bytes) 4096)
  where
    go : (b : Bool) → placed p (cond b (Ok (tt {0})) (Err (left_over h))) ≡ cond b (Ok p) (Err (left_over h))
    go true = refl
    go false = refl

pub all_read : (code : CommandCode) (bytes : List ℕ) (old : Place) (p : Params) (h : Here) (r : Result (Unit {0}) Refusal)
    → old ≡ begin bytes → read 0 (parameters code) old.here ≡ Ok (p, h)
    → r ≡ ended {A = Unit {0}} bytes (tt, h) → placed p r ≡ read_all (parameters code) bytes
all_read code bytes old p h r begins is ends =
    let from : read 0 (parameters code) (at_start (take 4096 bytes)) ≡ Ok (p, h) =
    ap (λ (q : Place). read 0 (parameters code) q.here) (sym begins) ∙ is in
    ap (placed p) ends
    ∙ ends_in_place p bytes h
    ∙ whole_read (parameters code) bytes (begin bytes) p h (ended bytes (p, h)) refl from refl
    ∙ whole_is 1100 (parameters code) (of_parameters code) (omega arith) bytes

pub refused : (code : CommandCode) (bytes : List ℕ) (old : Place) (e : Refusal)
    → old ≡ begin bytes → read 0 (parameters code) old.here ≡ Err e → Err e ≡ read_all (parameters code) bytes
refused code bytes old e begins is =
    let from : read 0 (parameters code) (at_start (take 4096 bytes)) ≡ Err e =
    ap (λ (q : Place). read 0 (parameters code) q.here) (sym begins) ∙ is in
    whole_refused (parameters code) bytes (begin bytes) e refl from
    ∙ whole_is 1100 (parameters code) (of_parameters code) (omega arith) bytes

pub judged : (code : CommandCode) (bytes : List ℕ) (o : Result Params Refusal) → o ≡ read_all (parameters code) bytes
    → Decodes (parameters code) (λ p. p) bytes o
judged code bytes o is =
    whole_decodes 1100 (parameters code) (of_parameters code) (omega arith) bytes o
    (is ∙ sym (whole_is 1100 (parameters code) (of_parameters code) (omega arith) bytes))

-- All of the bytes lie in the room that was read, and none is left.
ends_whole : (bytes : List ℕ) (h : Here) (u : Unit {0}) → Ok u ≡ ended {A = Unit {0}} bytes (tt, h)
    → (length h.rest ≡ 0) × (length bytes ≤ 4096)
ends_whole bytes h u ends =
    let whole = and_parts _ _ (test_end ((eqb (length h.rest) 0) && leb (length bytes) 4096) (tt {0}) (left_over h) u (sym ends)).0 in
    (eqb-true (length h.rest) 0 whole.0, leb-true (length bytes) 4096 whole.1)

-- They are spelled by all of the bytes.
pub all_spelled : (bytes text : List ℕ) (old : Place) (h : Here) (r : Result (Unit {0}) Refusal) → old ≡ begin bytes
    → old.here.rest ≡ text ++ h.rest → r ≡ ended {A = Unit {0}} bytes (tt, h) → OnOk r (bytes ≡ text)
all_spelled bytes text old h (Err e) begins is ends = tt
all_spelled bytes text old h (Ok u) begins is ends =
    let whole = ends_whole bytes h u ends in
    sym (take_all 4096 bytes whole.1)
    ∙ ap (λ (q : Place). q.here.rest) (sym begins)
    ∙ is
    ∙ ap (λ (l : List ℕ). text ++ l) (nil_from_length h.rest whole.0)
    ∙ append-nil text

-- They have few bytes.
pub all_few : (code : CommandCode) (bytes : List ℕ) (old : Place) (p : Params) (h : Here) (r : Result (Unit {0}) Refusal)
    → old ≡ begin bytes → read 0 (parameters code) old.here ≡ Ok (p, h)
    → r ≡ ended {A = Unit {0}} bytes (tt, h) → OnOk r (length bytes ≤ most_params)
all_few code bytes old p h (Err e) begins is ends = tt
all_few code bytes old p h (Ok u) begins is ends =
    let whole = ends_whole bytes h u ends in
    omega (
      arith,
      whole.0,
      (of_parameters code).most 0 old.here (p, h) is,
      ap (λ (q : Place). length q.here.rest) begins,
      ap length (take_all 4096 bytes whole.1),
    )
