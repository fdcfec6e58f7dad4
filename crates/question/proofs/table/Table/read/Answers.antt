use Rattle.std.proofs.Common.{arith}
use Rattle.question.proofs.Reading.{reading_more}
use Rattle.question.proofs.table.Table.read.Goals as goal

pub loop-rest-preserved : goal.loop-rest-preserved
loop-rest-preserved c = search (arith, reading_more c.in-len1-up.len_at_least c.loop-rest.invariant)
