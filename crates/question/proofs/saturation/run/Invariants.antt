use Rattle.std.proofs.Common.{◌+◌, ◌-◌}
use Rattle.question.specs.Stable.{room, cells_of}
use Rattle.question.proofs.Saturating.{Standing}
use Rattle.question.proofs.saturation.run.Given as goal

abbrev pub invariant-loop-first : goal.invariant-loop-first
invariant-loop-first l = Standing l.clauses l.initial.table l.table l.first.bits

-- what the cells and the first mark can still gain
abbrev pub decreases-loop-first : goal.decreases-loop-first
decreases-loop-first l = room (cells_of l.table) + (2047 - l.first.bits)
