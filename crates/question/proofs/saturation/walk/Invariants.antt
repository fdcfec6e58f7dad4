use Rattle.std.proofs.Common.{◌-◌}
use Rattle.question.proofs.Walking.{Walking}
use Rattle.question.proofs.saturation.walk.Given as goal

abbrev pub invariant-loop-mark : goal.invariant-loop-mark
invariant-loop-mark l = Walking l.clauses l.initial.table l.initial.reached l.visited l.table l.reached l.changed

-- the list has at most 2048 marks
abbrev pub decreases-loop-mark : goal.decreases-loop-mark
decreases-loop-mark l = 2048 - l.visited
