use Rattle.question.proofs.Rises.{runs_rise}
use Rattle.question.proofs.theorems.runs_rise.Goals as goal

pub returns : goal.returns
returns g c =
    let laws = g.met.O.Order in
    let o = c.args.order.now in
    runs_rise _ _ _ (record { reflexive = laws.reflexive o; antisymmetric = laws.antisymmetric o; transitive = laws.transitive o })
