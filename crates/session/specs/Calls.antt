-- What a call is, and what it can answer.
use Rattle.std.specs.Prelude.{ℕ, ◌-◌, List, [], ◌++◌, length, drop, replicate}
use Rattle.session.specs.declared.fault.Fault.{Fault}
use Rattle.session.specs.Limits.{cells_used, list_used}
use Rattle.question.specs.Runs.{Word, Rule, Climb}

-- What an ask is lent: the cells of a workspace, and a list of bytes for the climb.
pub record Lent : Type 0 where
  pub cells : List ℕ
  pub list : List ℕ

-- A call, with its arguments.
pub data Call : Type 0 where
  admit : Rule → Call
  hear : Word → Call
  fire : (number : ℕ) (word : Word) → Call
  ask : (goal : ℕ) (lent : Lent) → Call

-- An answer. Any call can be refused; the comments name the call that has the other answers.
pub data Answer : Type 0 where
  refused : Fault → Answer
  -- admit: the number of the rule
  numbered : ℕ → Answer
  -- hear: the word was in the pool, or was not
  known : Answer
  new : Answer
  -- fire: the stage after it
  stands_at : ℕ → Answer
  -- ask: no run ends at the goal, or some do, and this is their earliest climb
  out_of_reach : Answer
  in_reach : Climb → Answer

-- The list after the climb c is told: its first bytes are c, then 255 up to the fourth. All others are as before.
abbrev pub with_climb : Climb → List ℕ → List ℕ
with_climb c list = c ++ (replicate (list_used - length c) 255 ++ drop list_used list)

-- What an accepted ask leaves in what it was lent: the cells that it uses are 0, the others as before, and the list tells the climb.
-- If the goal is out of reach, the climb is empty.
abbrev pub told : Climb → Lent → Lent
told c lent = record { cells = replicate cells_used 0 ++ drop cells_used lent.cells; list = with_climb c lent.list }

-- What an ask that answered so leaves in what it was lent. A refused one leaves it as it was.
abbrev pub after_ask : Answer → Lent → Lent
after_ask (refused fault) lent = lent
after_ask (numbered n) lent = lent
after_ask known lent = lent
after_ask new lent = lent
after_ask (stands_at p) lent = lent
after_ask out_of_reach lent = told [] lent
after_ask (in_reach c) lent = told c lent

-- A call after it answered so: only an ask writes to what it was lent.
abbrev pub leaves : Call → Answer → Call
leaves (admit r) a = admit r
leaves (hear w) a = hear w
leaves (fire k w) a = fire k w
leaves (ask goal lent) a = ask goal (after_ask a lent)
