use Rattle.question.proofs.Designs.{designs}
use Rattle.question.proofs.Edges.{edges}
use Rattle.question.proofs.theorems.worked_designs.Goals as goal

pub returns : goal.returns
returns c = record { designs = designs; edges = edges }
