use Rattle.session.proofs.Settling.{content}
use Rattle.session.proofs.session.Session.settled.Goals as goal

pub returns : goal.returns
returns g c = content c.args.self.now
