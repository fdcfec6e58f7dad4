-- The ways to supply the rules of a climb.
use Rattle.std.specs.Prelude.{◌≡◌, ℕ, zero, suc, ◌*◌, ◌≤◌, List, length}
use Rattle.question.specs.Supply.{supplied_by}

-- A supplier for each of n rules: the pool or an earlier rule.
pub record Supplies (n : ℕ) (suppliers : List ℕ) : Type 0 where
  pub each : length suppliers ≡ n
  pub earlier : (j : ℕ) → supplied_by suppliers j ≤ j

-- How many ways there are to do so: rule n has the pool and each of the n rules before it to choose from.
abbrev pub ways : ℕ → ℕ
ways zero = 1
ways (suc n) = suc n * ways n
