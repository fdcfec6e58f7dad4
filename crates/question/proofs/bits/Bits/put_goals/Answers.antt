use Rattle.std.proofs.Common.{[], ◌∷◌}
use Rattle.question.specs.Rows.{held}
use Rattle.question.specs.Horns.{bit}
use Rattle.question.proofs.Grown.{grown_next}
use Rattle.question.proofs.Puts.{goals_next}
use Rattle.question.proofs.bits.Bits.put_goals.Goals as goal

pub loop-goal-preserved : goal.loop-goal-preserved
loop-goal-preserved c =
    let u = held c.args.word.now in
    let next = goals_next c.args.at c.args.n u c.loop-goal.goal c.loop-goal-test.true in
    grown_next _ _ _ (bit c.args.at c.loop-goal.goal u ∷ []) _ next c.loop-goal.invariant _ c.in_ok-put.ensures
