-- Where a counter stands among others.
use Rattle.std.specs.Prelude.{◌≡◌, ℕ, true, List, ◌∷◌, ◌++◌, length, None}
use Rattle.tpm_model.specs.Counters.{Counter, has_index, counter_in}

-- Counter k is the first with this index.
pub record IsPlace (i k : ℕ) (counters : List Counter) : Type 0 where
  pub front : List Counter
  pub counter : Counter
  pub back : List Counter
  pub split : counters ≡ front ++ counter ∷ back
  pub at : length front ≡ k
  pub same : has_index i counter ≡ true
  pub none : counter_in front i ≡ None
