-- Orders of stages, and rules that never fall.
use Rattle.std.specs.Prelude.{◌≡◌, ℕ, ◌<◌, List, length}
use Rattle.question.specs.Runs.{Rule, rule}

-- `above b a`, that the stage b stands at or above the stage a, is a partial order of the stages 0 to size - 1.
pub record Order (size : ℕ) (above : ℕ → ℕ → Type 0) : Type 0 where
  pub reflexive : (a : ℕ) → a < size → above a a
  pub antisymmetric : (a b : ℕ) → a < size → b < size → above a b → above b a → a ≡ b
  pub transitive : (a b c : ℕ) → a < size → b < size → c < size → above c b → above b a → above c a

-- p and q are stages, and q stands at or above p.
pub record Up (size : ℕ) (above : ℕ → ℕ → Type 0) (p q : ℕ) : Type 0 where
  pub from : p < size
  pub to : q < size
  pub stands : above q p

-- Each rule leads from a stage to a stage that stands at or above it.
abbrev pub NeverFalls : ℕ → (ℕ → ℕ → Type 0) → List Rule → Type 0
NeverFalls size above rules = (k : ℕ) → k < length rules → Up size above (rule rules k).from (rule rules k).to
