use Rattle.std.proofs.Common.{sym, ◌∙◌}
use Rattle.std.proofs.lemmas.Bool.{eqb-true}
use Rattle.question.proofs.Saturating.{standing_none, round_ends}
use Rattle.question.proofs.saturation.run.Goals as goal

pub loop-first-init : goal.loop-first-init
loop-first-init c = standing_none c.args.table.now c.requires c.args.clauses.now c.default-first.ensures

pub returns-then-eq-clause-saturated : goal.returns-then-eq-clause-saturated
returns-then-eq-clause-saturated c =
    let start = c.start-first.ensures in
    let walk = c.walk-changed.ensures in
    let quiet = c.if-not-changed.true in
    let stays = eqb-true _ _ (sym c.eq.ensures ∙ c.if-eq.true) in
    round_ends c.loop-first.invariant start.started walk.turn c.start-first.result.below quiet stays (start.done stays) c.add.ensures.seen walk.extends (walk.done quiet)
