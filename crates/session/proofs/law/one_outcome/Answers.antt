use Rattle.session.proofs.Outcomes.{one_outcome, some_outcome}
use Rattle.session.proofs.law.one_outcome.Goals as goal

pub returns : goal.returns
returns g c = record { one = one_outcome _ _ _; some = some_outcome _ _ _ }
