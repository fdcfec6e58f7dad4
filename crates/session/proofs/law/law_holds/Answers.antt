use Rattle.question.specs.Orders.{Order}
use Rattle.session.proofs.Lawful.{law_holds, history_goes_on}
use Rattle.session.proofs.law.law_holds.Goals as goal

pub returns : goal.returns
returns g c =
    let o = c.args.order.now in
    let laws = g.met.O.Order in
    let order : Order (g.O.Order.stages o) (g.O.Order.above o) = record { reflexive = laws.reflexive o; antisymmetric = laws.antisymmetric o; transitive = laws.transitive o } in
    record { law = law_holds _ _ _ order; history = history_goes_on _ _ _ order }
