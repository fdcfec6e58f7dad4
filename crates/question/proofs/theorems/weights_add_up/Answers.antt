use Rattle.question.proofs.Heights.{height_counts}
use Rattle.question.proofs.Weights.{weight_goes_on, long_weighs}
use Rattle.question.proofs.theorems.weights_add_up.Goals as goal

pub returns : goal.returns
returns c = record { height = height_counts; goes_on = weight_goes_on; long = long_weighs }
