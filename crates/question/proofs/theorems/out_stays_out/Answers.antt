use Rattle.question.proofs.Runs.{out_stays}
use Rattle.question.proofs.theorems.out_stays_out.Goals as goal

pub returns : goal.returns
returns g c = out_stays _
