use Rattle.session.specs.Tables.{items}
use Rattle.session.proofs.Pools.{in_pool, given_or_heard}
use Rattle.session.proofs.session.Session.knows.Goals as goal

pub returns : goal.returns
returns g c =
    let rows = items c.args.self.now.heard in
    (λ e. in_pool _ _ rows (c.holds.ensures.0 e), λ p. c.holds.ensures.1 (given_or_heard _ _ rows p))
