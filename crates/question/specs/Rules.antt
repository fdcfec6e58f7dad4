-- What rules and rows of the code stand for.
use Rattle.std.specs.Prelude.{ℕ, ◌<◌, ◌≤◌, List, map, length, slice_index}
use Rattle.question.specs.Runs.{Word, Rule, Climb}
use Rattle.question.specs.Rows.{held}
use Rattle.question.specs.declared.row.Row.{Row}
use Rattle.question.specs.declared.rule.Rule.{Rule as Held}

-- The rule that a rule of the code stands for.
abbrev pub rule_of : Held → Rule
rule_of r = record { from = r.from; left = held r.left; to = r.to; right = held r.right }

-- The same, of each.
abbrev pub rules_of : List Held → List Rule
rules_of rules = map rule_of rules

-- The words that rows hold.
abbrev pub words_of : List (Row 4) → List Word
words_of rows = map held rows

-- A climb of at most four rules, each of which is there, and of at most 32 rules to choose from.
pub record Climbing (rules : List Held) (climb : Climb) : Type 0 where
  pub few : length climb ≤ 4
  pub there : (i : ℕ) → i < length climb → slice_index climb i < length rules
  pub room : length rules ≤ 32
