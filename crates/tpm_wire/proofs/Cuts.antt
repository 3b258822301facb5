-- A layout, cut from what is left behind it.
use Rattle.std.proofs.Common.{◌≡◌, ℕ, List, length, take, drop, Result, Ok, Err, refl, ap, ◌∙◌, arith}
use Rattle.std.proofs.lemmas.List.{length-drop, take_all}
use Rattle.tpm_wire.specs.declared.refusal.Refusal.{Refusal}
use Rattle.tpm_wire.specs.Token.{Here, at_start}
use Rattle.tpm_wire.specs.Layout.{remaining, cut}
use Rattle.tpm_wire.specs.Reading.{read, read_all, finish, Gives, ◌>>=◌}
use Rattle.tpm_wire.specs.Path.{Decodes}
use Rattle.tpm_wire.specs.Buffers.{buffer, Layout}
use Rattle.tpm_wire.proofs.Agreement.{ok}
use Rattle.tpm_wire.proofs.Buffers.{buffer_sound, buffer_roomy}
use Rattle.tpm_wire.proofs.Whole.{read_spells, read_fault}

abbrev pub parted : {A : Type 0} → A × Here → Result (A × List ℕ) Refusal
parted x = Ok (x.0, x.1.rest)

-- Where a value and what is left behind it are read, the value alone is.
pub cut_read : {A : Type 0} (l : Layout A) (bytes : List ℕ) → read_all (cut l) bytes ≡ (read 0 l (at_start bytes) >>= parted)
cut_read {A = A} l bytes = go (read 0 l (at_start bytes))
  where
    go : (o : Result (A × Here) Refusal)
        → ((o >>= (λ x. read {r = buffer} 0 remaining x.1 >>= λ y. ok ((x.0, y.0), y.1)))
        >>= finish buffer
        >>= λ x. Ok x.0)
        ≡ (o >>= parted)
    go (Ok x) =
        let n = length x.1.rest in
        let none : length (drop n x.1.rest) ≡ 0 = omega (arith, length-drop n x.1.rest) in
        let all : take n x.1.rest ≡ x.1.rest = take_all n x.1.rest (omega arith) in
        rw (buffer_roomy 0 x.1.at n n (omega arith), all, none) refl
    go (Err e) = refl

-- A function that answers what reading gives, and keeps the place behind it, decodes the value and what is left.
pub cut_decodes : {X A : Type 0} (l : Layout A) (view : X → A × Here) (bytes : List ℕ) (o : Result X Refusal) → Gives view (read 0 l (at_start bytes)) o
    → Decodes (cut l) (λ x. ((view x).0, (view x).1.rest)) bytes o
cut_decodes l view bytes (Ok x) is = read_spells buffer buffer_sound (cut l) bytes ((view x).0, (view x).1.rest) (cut_read l bytes ∙ ap (λ r. r >>= parted) is)
cut_decodes l view bytes (Err e) is = read_fault buffer buffer_sound (cut l) bytes e (cut_read l bytes ∙ ap (λ r. r >>= parted) is)
