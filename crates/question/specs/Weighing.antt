-- Weights as far as they matter, and tables of them.
use Rattle.std.specs.Prelude.{◌≡◌, ℕ, ◌+◌, ◌<◌, ◌≤◌, min, List, length, Some, None, Option, slice_index_or}
use Rattle.question.specs.Runs.{Rule, Climb}
use Rattle.question.specs.Rises.{Rise, weight_limit}

-- A number, where the first above the limit stands for all of them.
abbrev pub cap : ℕ → ℕ
cap w = min w (1 + weight_limit)

-- The same, of a weight that may be missing.
abbrev pub capped : Option ℕ → Option ℕ
capped None = None
capped (Some w) = Some (cap w)

-- The table has the capped weight of each stage.
pub record Shows (weights : ℕ → Option ℕ) (table : List (Option ℕ)) : Type 0 where
  pub size : length table ≡ 256
  pub at : (p : ℕ) → p < 256 → slice_index_or table p None ≡ capped (weights p)

-- No rise has more rules than there are.
abbrev pub NeverLong : List Rule → Type 0
NeverLong rules = (p g : ℕ) (c : Climb) → Rise rules p c g → length c ≤ length rules
