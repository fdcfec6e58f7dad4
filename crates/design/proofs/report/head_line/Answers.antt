use Rattle.std.proofs.Common.{ap, ◌∙◌, ap₂}
use Rattle.design.specs.Lines.{stages_line, stop_line}
use Rattle.design.specs.Reports.{stages_of, no_head, headed}
use Rattle.design.proofs.report.head_line.Goals as goal

pub returns-in-Ok : goal.returns-in-Ok
returns-in-Ok c =
    let head = c.in-Ok.ensures.0 in
    let size = c.size.ensures ∙ ap₂ stages_of head.2.ladder head.2.flags in
    (_, headed head.0 head.1 (ap stages_line size), c.stages_line.ensures)

pub returns-in-Err : goal.returns-in-Err
returns-in-Err c = let e = c.in-Err.refusal in (_, no_head e.fault e.place c.in-Err.ensures.0 (ap (λ n. stop_line n e.place) c.from.ensures), c.stop_line.ensures)
