-- Checks in their order, and which of them refuses.
use Rattle.std.specs.Prelude.{◌≡◌, ◌⊎◌, List, [], ◌∷◌, Result, MatchResult}
use Rattle.session.specs.declared.fault.Fault.{Fault}

-- A check refuses by its fault, unless its condition holds.
infix 68 ◌unless◌
pub data Check : Type 1 where
  ◌unless◌ : Fault → Type 0 → Check

-- Each condition holds: no check refuses.
abbrev pub Passed : List Check → Type 0
Passed [] = Unit {0}
Passed ((_ unless holds) ∷ rest) = holds × Passed rest

-- `fault` is that of the first check whose condition does not hold.
abbrev pub RefusedBy : Fault → List Check → Type 0
RefusedBy fault [] = ⊥
RefusedBy fault ((f unless holds) ∷ rest) = ((holds → ⊥) × (fault ≡ f)) ⊎ (holds × RefusedBy fault rest)

-- A result that gives what P says if all checks pass, and else the fault that refuses.
abbrev pub Checked : {A : Type 0} → List Check → Result A Fault → (A → Type 0) → Type 0
Checked checks r P = MatchResult r (λ a. Passed checks × P a) (λ f. RefusedBy f checks)
