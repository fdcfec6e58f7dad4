-- What a verdict of the code says, and what it leaves in the workspace.
use Rattle.std.specs.Prelude.{◌≡◌, ℕ, ◌<◌, ◌≤◌, ◌≢◌, List, [], length, drop, Result, Ok, Err, slice_index}
use Rattle.question.specs.Orders.{NeverFalls}
use Rattle.question.specs.Rises.{Heavy}
use Rattle.question.specs.Runs.{Word, Rule}
use Rattle.question.specs.Search.{climb_of}
use Rattle.question.specs.Verdicts as v
use Rattle.question.specs.declared.verdict.Verdict.{Verdict}
use Rattle.question.specs.declared.verdict.Verdict.TheVariants.{Out, In, TooHeavy}
use Rattle.question.specs.declared.verdict.Unjudged.{Unjudged}
use Rattle.question.specs.declared.verdict.Unjudged.TheVariants.{TooManyRules, TooFewCells}

-- The verdict that a verdict of the code stands for.
abbrev pub verdict_of : Verdict → v.Verdict
verdict_of Out = v.Verdict.out
verdict_of (In climb) = v.Verdict.in_by (climb_of climb)
verdict_of TooHeavy = v.Verdict.too_heavy

-- The first 32,768 cells are 0, and the others are as before.
pub record Cleared (before after : List ℕ) : Type 0 where
  pub zeros : (k : ℕ) → k < 32768 → slice_index after k ≡ 0
  pub rest : drop 32768 after ≡ drop 32768 before

-- The workspace after a verdict: untouched if it is too heavy, and else cleared.
abbrev pub Leaves : Verdict → List ℕ → List ℕ → Type 0
Leaves Out before after = Cleared before after
Leaves (In climb) before after = Cleared before after
Leaves TooHeavy before after = after ≡ before

-- The verdict holds, and it is "too heavy" if some rise is.
pub record Judged (P : Word → Type 0) (rules : List Rule) (stage goal : ℕ) (verdict : v.Verdict) : Type 0 where
  pub means : v.Means rules P stage [] goal verdict
  pub light : verdict ≢ v.Verdict.too_heavy → Heavy rules stage goal → ⊥

-- The same where no rule falls, and what is left in the workspace.
pub record Ruled (size : ℕ) (above : ℕ → ℕ → Type 0) (P : Word → Type 0) (rules : List Rule) (stage goal : ℕ) (before : List ℕ) (verdict : Verdict) (after : List ℕ) : Type 0 where
  pub judged : NeverFalls size above rules → Judged P rules stage goal (verdict_of verdict)
  pub cells : Leaves verdict before after

-- The answer for any rules and any workspace. The rules are counted before the cells.
abbrev pub Answered : ℕ → (ℕ → ℕ → Type 0) → (Word → Type 0) → List Rule → ℕ → ℕ → List ℕ → Result Verdict Unjudged → List ℕ → Type 0
Answered size above P rules stage goal before (Ok verdict) after = (length rules ≤ 32) × (32768 ≤ length before) × Ruled size above P rules stage goal before verdict after
Answered size above P rules stage goal before (Err TooManyRules) after = (32 < length rules) × (after ≡ before)
Answered size above P rules stage goal before (Err TooFewCells) after = (length rules ≤ 32) × (length before < 32768) × (after ≡ before)
