use Rattle.question.proofs.Starting.{starting_more}
use Rattle.question.proofs.Turns.{rows_of}
use Rattle.question.proofs.table.Table.start.Goals as goal

pub loop-clause-preserved : goal.loop-clause-preserved
loop-clause-preserved c =
    starting_more (rows_of c.args.self.now) c.loop-clause.value.below c.loop-clause-test.true c.clause-item.is c.loop-clause.invariant c.start-value.ensures
