use Rattle.std.proofs.Common.{sym, ap, ◌∙◌, subst}
use Rattle.question.specs.Marks.{Within, read_from}
use Rattle.question.specs.Stable.{cells_of}
use Rattle.question.proofs.Bitsets.{within_from_and, and_from_within}
use Rattle.question.proofs.clause.Clause.holds.Goals as goal

pub returns : goal.returns
returns c =
    let body = c.args.self.now.body in
    let mark = c.read.result.bits in
    let told = c.covers.ensures in
    let read = c.read.ensures ∙ ap (λ w. read_from (cells_of c.args.table.now) w c.args.from.bits) c.word.ensures.value in (
      λ e. subst (Within body) read (within_from_and body mark (told.0 e)),
      λ w. told.1 (and_from_within body mark (subst (Within body) (sym read) w)),
    )
