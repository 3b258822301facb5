-- What is said one behind the other of registers.
use Rattle.std.specs.Prelude.{ℕ, zero, suc, List, [], ◌++◌}

-- of the first ones, so many of them, by what is said of each number
abbrev pub first_of : (one : ℕ → List ℕ) → ℕ → List ℕ
first_of one zero = []
first_of one (suc n) = first_of one n ++ one n
