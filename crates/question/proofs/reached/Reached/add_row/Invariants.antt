use Rattle.question.specs.Stable.{cells_of}
use Rattle.question.proofs.Noting.{Noting}
use Rattle.question.proofs.reached.Reached.add_row.Given as goal

abbrev pub invariant-loop-symbol : goal.invariant-loop-symbol
invariant-loop-symbol l = Noting (cells_of l.table) l.initial.self l.mark.bits l.symbol l.self
