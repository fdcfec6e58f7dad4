use Rattle.std.proofs.Common.{◌<◌, length}
use Rattle.question.proofs.Places.{fits_if}
use Rattle.question.proofs.search.next.Goals as goal

pub returns : goal.returns
returns c =
    let listed : c.args.k < length c.args.rules.now = rw c.if-not-within.false at c.requires in
    rw c.then_some.ensures (fits_if c.args.rules.now c.if-not-within.false c.args.stage _ c.index-rules-from.result listed (rw c.from.ensures at c.index-rules-from.is) c.changes_at.result c.changes_at.ensures)
