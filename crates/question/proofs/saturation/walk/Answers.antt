use Rattle.question.proofs.Walking.{walking_more, walking_all}
use Rattle.question.proofs.saturation.walk.Goals as goal

pub loop-mark-preserved : goal.loop-mark-preserved
loop-mark-preserved c =
    walking_more c.loop-mark.invariant c.in-Some.ensures.0 c.in-Some.ensures.1 c.update-changed.ensures.turn c.update-changed.ensures.done c.add_row.ensures.extends c.add_row.ensures.seen

pub returns-clause-done : goal.returns-clause-done
returns-clause-done c = walking_all c.loop-mark.invariant c.in_default.ensures
