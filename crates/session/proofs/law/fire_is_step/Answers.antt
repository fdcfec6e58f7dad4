use Rattle.session.proofs.Firing.{fire_is_step}
use Rattle.session.proofs.law.fire_is_step.Goals as goal

pub returns : goal.returns
returns g c = fire_is_step _ _ _
