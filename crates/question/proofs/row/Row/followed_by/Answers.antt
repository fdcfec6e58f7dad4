use Rattle.std.proofs.Common.{◌<◌, arith}
use Rattle.std.proofs.ByRecursion.{All-append}
use Rattle.question.proofs.Laid.{laid_row, length_held, held_symbols, behind, length_behind}
use Rattle.question.proofs.row.Row.followed_by.Goals as goal

pub invariant_of-result : goal.invariant_of-result
invariant_of-result g c =
    let row = c.args.self.now in
    let word = c.args.word.now in
    let both =
    laid_row g.row.N _ (behind row word _ _ (omega arith) c.copy_from_slice.ensures.after) (length_behind row word)
    (omega (arith, length_held row)) (All-append (λ s. s < 16) _ word (held_symbols row) c.requires.symbols) in
    rw c.from-start.ensures (record { short = both.short; wide = both.wide; below = both.below; blank = both.blank })
