use Rattle.std.proofs.Common.{sym, ◌∙◌, subst}
use Rattle.std.proofs.lemmas.Result.{IfOk-weaker}
use Rattle.design.specs.Reports.{Reported}
use Rattle.design.proofs.Adding.{put_front}
use Rattle.design.proofs.OneHead.{one_report}
use Rattle.design.proofs.report.report.Goals as goal

pub returns : goal.returns
returns c =
    let line = rw c.unwrap-len.ensures at c.head_line.ensures in
    (IfOk-weaker c.from_slice.result _ _ (λ out is. subst (Reported c.args.file.now) (sym (is ∙ put_front line.2)) line.1) c.from_slice.ensures.items, one_report _)
