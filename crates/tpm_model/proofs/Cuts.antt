-- A command is cut by the grammar.
use Rattle.std.proofs.Common.{◌≡◌, ℕ, List, Result, Ok, Err, refl, ap, ◌∙◌}
use Rattle.tpm_wire.specs.declared.refusal.Refusal.{Refusal}
use Rattle.tpm_wire.specs.Buffers.{buffer, Layout}
use Rattle.tpm_wire.specs.Token.{Here}
use Rattle.tpm_wire.specs.Reading.{read, read_all}
use Rattle.tpm_wire.proofs.Buffers.{buffer_sound}
use Rattle.tpm_wire.proofs.Whole.{spells_read, read_spells, fault_read, read_fault, reads_its_path}
use Rattle.tpm_model.specs.Answers.{code_only}
use Rattle.tpm_model.specs.Premises.{IsByGrammar, IsWholeByGrammar}
use Rattle.tpm_model.proofs.Spelled.{code_ok}

by_fault : {A : Type 0} (r : Result A Refusal) (code : ℕ) → code_only r ≡ Err code → (e : Refusal) × (r ≡ Err e) × (e.code ≡ code)
by_fault (Ok y) code is = absurd (let z : ⊥ = cc in z)
by_fault (Err e) code is = (e, refl, let same : e.code ≡ code = cc in same)

abbrev err : {A : Type 0} → ℕ → Result A ℕ
err code = Err code

pub cut : {A : Type 0} (l : Layout A) (h : Here) → IsByGrammar l h
cut {A = A} l h =
    let reads = reads_its_path buffer buffer_sound 0 l h in
    record {
      value = λ x behind. (λ is. (reads.value x behind).0 (code_ok (read 0 l h) (x, behind) is), λ begins. ap code_only ((reads.value x behind).1 begins));
      fault = λ code. (
        λ is. (let f = by_fault (read 0 l h) code is in (f.0, (reads.fault f.0).0 f.1, f.2)),
        λ f. ap code_only ((reads.fault f.0).1 f.1) ∙ ap err f.2,
      );
    }

pub whole : {A : Type 0} (l : Layout A) (bytes : List ℕ) → IsWholeByGrammar l bytes
whole {A = A} l bytes = record {
  value = λ x. (
    λ is. read_spells buffer buffer_sound l bytes x (code_ok (read_all l bytes) x is),
    λ spells. ap code_only (spells_read buffer buffer_sound l bytes x spells),
  );
  fault = λ code. (
    λ is. (let f = by_fault (read_all l bytes) code is in (f.0, read_fault buffer buffer_sound l bytes f.0 f.1, f.2)),
    λ f. ap code_only (fault_read buffer buffer_sound l bytes f.0 f.1) ∙ ap err f.2,
  );
}
