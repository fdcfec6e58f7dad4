-- What is answered about a climb.
use Rattle.std.specs.Prelude.{◌≡◌, ℕ, ◌<◌, ◌≤◌, Bool, List, [], length, Decides}
use Rattle.question.specs.Accepts.{Accepts}
use Rattle.question.specs.Marks.{Saturated}
use Rattle.question.specs.Rises.{Rise, weight, weight_limit}
use Rattle.question.specs.Runs.{Word, Rule, Climb, Reaches}
use Rattle.question.specs.Supply.{supplied_by, Fits, Supplied}
use Rattle.question.specs.declared.clause.Clause.{Clause}

-- By a saturated table it is said whether the bit accepts some word of P.
abbrev pub Accepted : (Word → Type 0) → List ℕ → ℕ → ℕ → Bool → Type 0
Accepted P table first bit r = (cs : List Clause) → Saturated cs table first → Decides r ((w : Word) × P w × Accepts cs bit w)

-- The same, if X holds.
abbrev pub AcceptedIf : Type 0 → (Word → Type 0) → List ℕ → ℕ → ℕ → Bool → Type 0
AcceptedIf X P table first bit r = (cs : List Clause) → Saturated cs table first → Decides r (X → (w : Word) × P w × Accepts cs bit w)

-- By a saturated table it is said whether, for each rule that the pool supplies, its bit accepts some word of P.
abbrev pub Pooled : (Word → Type 0) → List ℕ → ℕ → List ℕ → Bool → Type 0
Pooled P table first suppliers r = (cs : List Clause) → Saturated cs table first →
    Decides r ((j : ℕ) → j < length suppliers → supplied_by suppliers j ≡ 0 → (w : Word) × P w × Accepts cs j w)

-- It is said whether, for each rule of the climb that the pool supplies, some word of P fits.
abbrev pub Served : List Rule → (Word → Type 0) → Climb → List ℕ → Bool → Type 0
Served rules P climb suppliers r =
    Decides r ((j : ℕ) → j < length climb → supplied_by suppliers j ≡ 0 → (w : Word) × P w × Fits rules climb (supplied_by suppliers) 0 j w)

-- The climb is not too heavy, and the words of P serve it with some suppliers.
abbrev pub Servable : List Rule → (Word → Type 0) → Climb → Type 0
Servable rules P climb = (weight rules climb ≤ weight_limit) × ((s : List ℕ) × Supplied rules climb P [] s)

-- Of a climb that is a rise and not too heavy it is said whether some run from the words of P has exactly this climb.
abbrev pub RunsBy : List Rule → (Word → Type 0) → Climb → Bool → Type 0
RunsBy rules P climb r = weight rules climb ≤ weight_limit → (p g : ℕ) → Rise rules p climb g → Decides r (Reaches rules P p [] climb g)
