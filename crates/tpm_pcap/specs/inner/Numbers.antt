-- What is read, as the code holds it.
use Rattle.std.specs.Prelude.{ℕ, List, Result, Ok, Err}
use Rattle.std.specs.Borrow.{Bor}
use Rattle.tpm_pcap.specs.declared.entry.Reason.{Reason}
use Rattle.tpm_pcap.specs.Numbers.{Fields}

abbrev pub read_by : {A B : Type 0} → (A → B) → Result A Reason → Result B Reason
read_by view (Ok x) = Ok (view x)
read_by view (Err reason) = Err reason

abbrev pub field_by : {A B : Type 0} → (A → B) → Result (A × Bor (List ℕ)) Reason → Fields B
field_by view result = read_by (λ x. (view x.0, x.1.now)) result
