use Rattle.std.proofs.Common.{ap, ◌∙◌, replicate}
use Rattle.question.proofs.table.clear.Goals as goal

pub returns : goal.returns
returns c = c.fill.ensures.after (λ y e. e) ∙ ap (λ n. replicate n 0) c.told-cells
