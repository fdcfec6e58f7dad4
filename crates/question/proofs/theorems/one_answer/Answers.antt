use Rattle.question.proofs.Climbs.{one_answer}
use Rattle.question.proofs.theorems.one_answer.Goals as goal

pub returns : goal.returns
returns g c = one_answer _
