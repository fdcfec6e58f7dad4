-- Which climb comes earlier, and what a question about a goal may be answered.
use Rattle.std.specs.Prelude.{◌≡◌, ℕ, ◌<◌, ◌⊎◌, List, [], ◌∷◌, length}
use Rattle.question.specs.Runs.{Word, Rule, Climb, Reaches, Out}
use Rattle.question.specs.Rises.{Heavy}

-- c has the lower number at the first place where c and d differ.
abbrev pub Lower : Climb → Climb → Type 0
Lower [] d = ⊥
Lower (j ∷ c) [] = ⊥
Lower (j ∷ c) (k ∷ d) = (j < k) ⊎ ((j ≡ k) × Lower c d)

-- c has fewer rules than d, or as many and is lower.
abbrev pub Earlier : Climb → Climb → Type 0
Earlier c d = (length c < length d) ⊎ ((length c ≡ length d) × Lower c d)

-- X holds of the climb c, and of none that is earlier.
pub record Earliest (X : Climb → Type 0) (c : Climb) : Type 0 where
  pub holds : X c
  pub first : (d : Climb) → X d → Earlier d c → ⊥

-- Out of reach; in reach, by this climb; or too heavy to say.
pub data Verdict : Type 0 where
  out : Verdict
  in_by : Climb → Verdict
  too_heavy : Verdict

-- What a verdict says of the goal g, from the stage p and the pool of P and the words `added`: no run ends at g; some run with the climb c
-- ends there, and none with an earlier one; some rise to g is too heavy.
abbrev pub Means : List Rule → (Word → Type 0) → ℕ → List Word → ℕ → Verdict → Type 0
Means rules P p added g out = Out rules P p added g
Means rules P p added g (in_by c) = Earliest (λ d. Reaches rules P p added d g) c
Means rules P p added g too_heavy = Heavy rules p g
