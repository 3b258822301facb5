-- Bytes, with more behind them.
use Rattle.std.specs.Prelude.{◌≡◌, ℕ, List, ◌++◌, Result, Ok, Err}
use Rattle.tpm_wire.specs.Token.{Here}

-- the same place, with more bytes behind those from it on
abbrev pub with_more : List ℕ → Here → Here
with_more more h = record { rest = h.rest ++ more; at = h.at }

-- What was read, a value or a fault that is final, is read of the longer bytes too.
abbrev pub IsReadOn : {A E : Type 0} → (E → Type 0) → List ℕ → Result (A × Here) E → Result (A × Here) E → Type 0
IsReadOn IsFinal more (Ok x) longer = longer ≡ Ok (x.0, with_more more x.1)
IsReadOn IsFinal more (Err e) longer = IsFinal e → longer ≡ Err e
