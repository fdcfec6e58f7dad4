use Rattle.question.proofs.Deciders.{meets_accepts}
use Rattle.question.proofs.feasible.accepts_some.Goals as goal

pub returns : goal.returns
returns g c =
    meets_accepts _ (g.met.Q.Pool.symbols c.args.pool.now) c.args.table.now c.wanted_where-wanted.result c.args.first c.args.bit c.meets.result
    c.wanted_where-wanted.ensures c.meets.ensures
