-- What the search over climbs answers.
use Rattle.std.specs.Prelude.{◌≡◌, ℕ, ◌≤◌, Bool, true, false, ◌≢◌, List, length, take, Option, MatchOption}
use Rattle.question.specs.Runs.{Rule, Climb, Leads}
use Rattle.question.specs.Rises.{Rise}
use Rattle.question.specs.Verdicts.{Earliest}
use Rattle.question.specs.declared.climb.Climb.{Climb as Held}

-- The climb that the code holds.
abbrev pub climb_of : Held → Climb
climb_of c = take c.len c.rules

-- The earliest climb that X holds of was found, or there is none.
abbrev pub Sought : (Climb → Type 0) → Option Held → Type 0
Sought X r = MatchOption r ((c : Climb) → X c → ⊥) (λ c. Earliest X (climb_of c))

-- The rule leads from the stage p to another.
abbrev pub Changes : Rule → ℕ → Type 0
Changes r p = (r.from ≡ p) × (r.to ≢ p)

module _ (rules : List Rule) where
  -- A rise of at most four rules that serves.
  pub record ShortRise (p g : ℕ) (serves : Climb → Type 0) (c : Climb) : Type 0 where
    pub rises : Rise rules p c g
    pub short : length c ≤ 4
    pub serving : serves c

  -- The place of a climb with rule k leads from the stage p to another stage, q; past the climb's end, the stage stays.
  pub record Passes (within : Bool) (p k q : ℕ) : Type 0 where
    pub leads : within ≡ true → Leads rules k p q × (p ≢ q)
    pub stays : within ≡ false → p ≡ q
