-- Where no rise is too heavy, the earliest short rise that serves is the answer to the question.
use Rattle.std.proofs.Common.{ℕ, ◌<◌, ◌≤◌, ◌↔◌, List, length, arith}
use native.Mathlib.Decide.{dec_lt}
use Rattle.question.specs.Runs.{Word, Rule, Climb, Reaches}
use Rattle.question.specs.Rises.{Rise, weight, weight_limit, Heavy}
use Rattle.question.specs.Verdicts.{Earliest, Verdict.out, Verdict.in_by, Means}
use Rattle.question.specs.Search.{ShortRise}
use Rattle.question.proofs.Runs.{climb_rises}
use Rattle.question.proofs.Weights.{long_weighs}

module _ (rules : List Rule) (p g : ℕ) (light : Heavy rules p g → ⊥) where
  pub light_weighs : (c : Climb) → Rise rules p c g → weight rules c ≤ weight_limit
  light_weighs c r = by (dec_lt weight_limit (weight rules c))
    where
      by : Dec (weight_limit < weight rules c) → weight rules c ≤ weight_limit
      by (yes h) = absurd (light (c, r, h))
      by (no h) = omega arith

  light_short : (c : Climb) → Rise rules p c g → length c ≤ 4
  light_short c r = by (dec_lt 4 (length c))
    where
      by : Dec (4 < length c) → length c ≤ 4
      by (yes h) = absurd (omega (arith, light_weighs c r, long_weighs rules c (omega arith)))
      by (no h) = omega arith

  -- A rise serves if and only if it is the climb of some run.
  module _ (P : Word → Type 0) (added : List Word) (serves : Climb → Type 0)
      (runs : (c : Climb) → Rise rules p c g → (serves c ↔ Reaches rules P p added c g)) where
    run_serves : (c : Climb) → Reaches rules P p added c g → ShortRise rules p g serves c
    run_serves c r = let up = climb_rises rules P r.1 in record { rises = up; short = light_short c up; serving = (runs c up).1 r }

    pub means_out : ((c : Climb) → ShortRise rules p g serves c → ⊥) → Means rules P p added g out
    means_out none c r = none c (run_serves c r)

    pub means_in : (c : Climb) → Earliest (ShortRise rules p g serves) c → Means rules P p added g (in_by c)
    means_in c e = record { holds = (runs c e.holds.rises).0 e.holds.serving; first = λ d r. e.first d (run_serves d r) }
