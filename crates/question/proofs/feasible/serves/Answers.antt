use Rattle.std.proofs.Common.{subst}
use Rattle.question.specs.Coding.{suppliers_of}
use Rattle.question.specs.Marks.{Saturated}
use Rattle.question.specs.Plans.{rules_in}
use Rattle.question.proofs.Deciders.{pooled_serves}
use Rattle.question.proofs.feasible.serves.Goals as goal

pub returns : goal.returns
returns g c =
    let plan = c.args.plan.now in
    let cells = c.saturate-first.new.cells in
    let first = c.saturate-first.result in
    pooled_serves _ (g.met.Q.Pool.symbols c.args.pool.now) (rules_in plan) plan.climb.now (suppliers_of plan.suppliers.now) _ cells first c.accepts_all.result
    plan.ready.each c.fill.ensures (subst (λ cs. Saturated cs cells first) c.as_slice.ensures c.saturate-first.ensures) c.accepts_all.ensures
