use Rattle.question.proofs.Rounds.{rounds_find, heavy_by_rounds}
use Rattle.question.proofs.theorems.heavy_by_rounds.Goals as goal

pub returns : goal.returns
returns g c =
    let laws = g.met.O.Order in
    let o = c.args.order.now in
    record {
      most = rounds_find;
      heavy = heavy_by_rounds _ _ (record { reflexive = laws.reflexive o; antisymmetric = laws.antisymmetric o; transitive = laws.transitive o });
    }
