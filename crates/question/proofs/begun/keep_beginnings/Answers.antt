use Rattle.std.proofs.Common.{[], ◌∷◌}
use Rattle.std.proofs.lemmas.Result.{err_from_is_err_and}
use Rattle.question.specs.Rows.{held}
use Rattle.question.proofs.Kept.{rows_next, kept_over}
use Rattle.question.proofs.begun.keep_beginnings.Goals as goal

pub returns-in_err-keep : goal.returns-in_err-keep
returns-in_err-keep c =
    let next = rows_next _ c.loop-word.word-index _ c.loop-word-test.true c.word-item.is in
    let p = err_from_is_err_and c.from_residual.result c.from_residual.ensures.1 in
    rw p.1 (kept_over _ _ _ (held c.word-item.result ∷ []) _ next c.loop-word.invariant _ c.in_err-keep.ensures)
