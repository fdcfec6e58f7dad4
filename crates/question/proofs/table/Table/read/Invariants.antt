use Rattle.std.proofs.Common.{length}
use Rattle.question.specs.Stable.{cells_of}
use Rattle.question.proofs.Reading.{Reading}
use Rattle.question.proofs.table.Table.read.Given as goal

abbrev pub invariant-loop-rest : goal.invariant-loop-rest
invariant-loop-rest l = Reading (cells_of l.self) l.word l.fn.from.bits l.rest l.mark.bits

abbrev pub decreases-loop-rest : goal.decreases-loop-rest
decreases-loop-rest l = length l.rest
