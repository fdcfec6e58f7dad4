-- What is proved of runs, climbs and weights.
use Rattle.std.specs.Prelude.{◌≡◌, ℕ, ◌+◌, ◌<◌, ◌≤◌, ◌≢◌, ◌↔◌, List, [], ◌∷◌, ◌++◌, length}
use Rattle.question.specs.Lists.{In, Once}
use Rattle.question.specs.Runs.{Word, Rule, Within, Climb, Step, Run, Reaches, Out}
use Rattle.question.specs.Rises.{Rise, height, weight, Heavy}
use Rattle.question.specs.Supply.{Supplied}
use Rattle.question.specs.Orders.{NeverFalls}
use Rattle.question.specs.Verdicts.{Verdict, Verdict.too_heavy, Means}
use Rattle.question.specs.Rounds.{adds, heaviest, Over, Weighs, Most}

-- Of any pool that may be given, by its set of words P.
module _ (P : Word → Type 0) where
  -- Two verdicts that both say whether the goal is in reach, and how, are equal.
  abbrev pub OneAnswer : Type 0
  OneAnswer = (rules : List Rule) (p g : ℕ) (added : List Word) (v w : Verdict) → v ≢ too_heavy → w ≢ too_heavy →
      Means rules P p added g v → Means rules P p added g w → v ≡ w

  -- No word ever leaves the pool.
  abbrev pub WordsStay : Type 0
  WordsStay = (rules : List Rule) (p q : ℕ) (added more : List Word) (c : Climb) → Run rules P p added c q more → Within P added P more

  -- A goal at which no run ends stays out of reach.
  pub record OutStays : Type 0 where
    pub after_step : (rules : List Rule) (k p q g : ℕ) (added : List Word) (new : Word) →
        Out rules P p added g → Step rules P k p q added new → Out rules P q (new ∷ added) g
    pub after_run : (rules : List Rule) (p q g : ℕ) (added more : List Word) (c : Climb) →
        Out rules P p added g → Run rules P p added c q more → Out rules P q more g

  -- Some run with the climb c ends at g if and only if c is a rise to g and, with some suppliers, the pool serves it.
  abbrev pub Criterion : Type 0
  Criterion = (rules : List Rule) (p g : ℕ) (added : List Word) (c : Climb) →
      (Reaches rules P p added c g ↔ (Rise rules p c g × ((suppliers : List ℕ) × Supplied rules c P added suppliers)))

  -- What holds of runs and rises by these rules, over any order in which none of them falls.
  pub record OnlyUp (size : ℕ) (above : ℕ → ℕ → Type 0) (rules : List Rule) : Type 0 where
    -- a run ends at or above the stage where it began
    pub up : (p q : ℕ) (added more : List Word) (c : Climb) → p < size → Run rules P p added c q more → above q p
    -- a stage that a run left for another never comes again
    pub never_back : (p q r : ℕ) (added more most : List Word) (c d : Climb) →
        Run rules P p added c q more → q ≢ p → Run rules P q more d r most → r ≢ p
    -- the climb of a run is a rise
    pub climb_rises : (p q : ℕ) (added more : List Word) (c : Climb) → Run rules P p added c q more → Rise rules p c q
    -- no rise has more rules than there are
    pub short : (p g : ℕ) (c : Climb) → Rise rules p c g → length c ≤ length rules

  abbrev pub RunsRise : ℕ → (ℕ → ℕ → Type 0) → Type 0
  RunsRise size above = (rules : List Rule) → NeverFalls size above rules → OnlyUp size above rules

-- Of any two.
module _ (P Q : Word → Type 0) where
  -- A larger pool has each climb that a smaller one has.
  abbrev pub MoreWords : Type 0
  MoreWords = (rules : List Rule) (p g : ℕ) (added more : List Word) (c : Climb) →
      Within P added Q more → Reaches rules P p added c g → Reaches rules Q p more c g

  -- Pools with the same words have the same climbs, and the same verdicts.
  pub record SameWords : Type 0 where
    pub climbs : (rules : List Rule) (p g : ℕ) (added more : List Word) (c : Climb) →
        Within P added Q more → Within Q more P added → (Reaches rules P p added c g ↔ Reaches rules Q p more c g)
    pub verdicts : (rules : List Rule) (p g : ℕ) (added more : List Word) (v : Verdict) →
        Within P added Q more → Within Q more P added → (Means rules P p added g v ↔ Means rules Q p more g v)

-- u begins the left side of a staying rule of the stage p, and is neither empty nor the whole of it.
pub record Beginning (rules : List Rule) (p : ℕ) (u : Word) : Type 0 where
  pub by : Rule
  pub listed : In by rules
  pub from : by.from ≡ p
  pub to : by.to ≡ p
  pub rest : Word
  pub parts : by.left ≡ u ++ rest
  pub not_empty : u ≢ []
  pub not_whole : rest ≢ []

-- X holds of n words.
pub record Counted (X : Word → Type 0) (n : ℕ) : Type 0 where
  pub words : List Word
  pub size : length words ≡ n
  pub once : Once words
  pub just : (u : Word) → X u ↔ In u words

-- The height counts the beginnings.
abbrev pub HeightCounts : Type 0
HeightCounts = (rules : List Rule) (p : ℕ) → Counted (Beginning rules p) (height rules p)

-- The weight of a climb, by recursion.
abbrev pub WeightGoesOn : Type 0
WeightGoesOn = (rules : List Rule) (k : ℕ) (c : Climb) → weight rules (k ∷ c) ≡ adds rules (length c) k + weight rules c

-- A climb of five rules or more weighs at least 15.
abbrev pub LongWeighs : Type 0
LongWeighs = (rules : List Rule) (c : Climb) → 5 ≤ length c → 15 ≤ weight rules c

-- Each round finds the heaviest rise of so many rules.
abbrev pub RoundsFind : Type 0
RoundsFind = (rules : List Rule) (g n p : ℕ) → Most (Weighs rules g n p) (heaviest rules g n p)

-- Where no rule falls, some rise is too heavy if and only if one of as many rounds as there are rules finds one.
abbrev pub HeavyByRounds : ℕ → (ℕ → ℕ → Type 0) → Type 0
HeavyByRounds size above = (rules : List Rule) → NeverFalls size above rules → (p g : ℕ) →
    (Heavy rules p g ↔ ((n : ℕ) × (n ≤ length rules) × Over (heaviest rules g n p)))
