-- What a call from C does.
use Rattle.std.specs.Prelude.{ℕ}

-- what it answers, and what lies in the places that it may write to, before it and after it
pub record Call (Places : Type 0) : Type 0 where
  pub answer : ℕ
  pub old : Places
  pub new : Places
