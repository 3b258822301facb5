-- Whole runs.
use Rattle.std.specs.Prelude.{ℕ, List, [], ◌∷◌}
use Rattle.tpm_model.specs.Steps.{History, PowerCycle, Origin}
use Rattle.tpm_model.specs.Answers.{answer, next}

-- a buffer with the nonce that is handed in, or a power cycle
pub data Stimulus : Type 0 where
  Given : (bytes nonce : List ℕ) → Stimulus
  Cycled : Stimulus

abbrev pub happens : Origin → History → Stimulus → History
happens o h (Given bytes nonce) = next o h bytes nonce
happens o h Cycled = PowerCycle ∷ h

-- the history after stimuli, the first of them first
abbrev pub after : Origin → History → List Stimulus → History
after o h [] = h
after o h (e ∷ es) = after o (happens o h e) es

-- the answers to the buffers among stimuli, in order
abbrev pub run : Origin → History → List Stimulus → List (List ℕ)
run o h [] = []
run o h (Given bytes nonce ∷ es) = answer o h bytes nonce ∷ run o (next o h bytes nonce) es
run o h (Cycled ∷ es) = run o (PowerCycle ∷ h) es
