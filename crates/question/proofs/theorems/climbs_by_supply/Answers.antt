use Rattle.question.proofs.Criterion.{criterion}
use Rattle.question.proofs.theorems.climbs_by_supply.Goals as goal

pub returns : goal.returns
returns g c = criterion _
