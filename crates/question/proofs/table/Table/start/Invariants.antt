use Rattle.question.specs.Stable.{cells_of}
use Rattle.question.proofs.Starting.{Starting}
use Rattle.question.proofs.table.Table.start.Given as goal

abbrev pub invariant-loop-clause : goal.invariant-loop-clause
invariant-loop-clause l = Starting l.clauses (cells_of l.self) l.fn.old.bits l.clause-index l.value.bits
