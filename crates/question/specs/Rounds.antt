-- How the heaviest rise is found: by rounds, for one rule more each time.
use Rattle.std.specs.Prelude.{◌≡◌, ℕ, zero, suc, ◌+◌, ◌-◌, ◌*◌, ◌<◌, ◌≤◌, max, cond, not, ◌&&◌, List, length, Some, None, Option, ◌==◌}
use Rattle.question.specs.Runs.{Rule, Climb, rule}
use Rattle.question.specs.Rises.{Rise, height, weight, weight_limit}

-- The larger of two weights, of which either may be missing.
abbrev pub larger : Option ℕ → Option ℕ → Option ℕ
larger None b = b
larger (Some m) None = Some m
larger (Some m) (Some n) = Some (max m n)

-- The largest of f 0, .., f (n - 1).
abbrev pub largest_below : ℕ → (ℕ → Option ℕ) → Option ℕ
largest_below zero f = None
largest_below (suc n) f = larger (largest_below n f) (f n)

-- A weight, with d more.
abbrev pub plus : ℕ → Option ℕ → Option ℕ
plus d None = None
plus d (Some m) = Some (d + m)

-- There is a weight, and it is above the limit.
abbrev pub Over : Option ℕ → Type 0
Over None = ⊥
Over (Some w) = weight_limit < w

module _ (rules : List Rule) where
  -- What rule number k adds to the weight of a rise, before n more rules.
  abbrev pub adds : ℕ → ℕ → ℕ
  adds n k = (1 + n) * (1 + height rules (rule rules k).from) + (length (rule rules k).left - 1)

  -- The heaviest rise from p that begins with rule number k, where `rest` has the heaviest rise of n rules from each stage.
  abbrev pub by_rule : ℕ → (ℕ → Option ℕ) → ℕ → ℕ → Option ℕ
  by_rule n rest p k = cond ((rule rules k).from == p && not ((rule rules k).to == p)) (plus (adds n k) (rest (rule rules k).to)) None

  -- The heaviest rise from p of one rule more.
  abbrev pub one_more : ℕ → (ℕ → Option ℕ) → ℕ → Option ℕ
  one_more n rest p = largest_below (length rules) (by_rule n rest p)

  -- The weight of the heaviest rise of n rules from p to g.
  abbrev pub heaviest : ℕ → ℕ → ℕ → Option ℕ
  heaviest g zero p = cond (p == g) (Some 0) None
  heaviest g (suc n) p = one_more n (heaviest g n) p

  -- A rise of n rules from p to g has the weight v.
  abbrev pub Weighs : ℕ → ℕ → ℕ → ℕ → Type 0
  Weighs g n p v = (c : Climb) × Rise rules p c g × (length c ≡ n) × (weight rules c ≡ v)

-- The largest number that X holds of; None where it holds of no number.
abbrev pub Most : (ℕ → Type 0) → Option ℕ → Type 0
Most X None = (v : ℕ) → X v → ⊥
Most X (Some m) = X m × ((v : ℕ) → X v → v ≤ m)
