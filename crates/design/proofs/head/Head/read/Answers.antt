use Rattle.std.proofs.Common.{◌++◌, Ok, Err, sym, refl, ap, ◌∙◌, arith}
use Rattle.std.proofs.lemmas.Result.{err_from_is_err_and}
use Rattle.design.specs.Heads.{stages_bytes, too_large, at_stages, at_book, at_keys}
use Rattle.design.proofs.Heading.{whole_head, short_enough}
use Rattle.design.proofs.OneHead.{one_answer}
use Rattle.design.proofs.head.Head.read.Goals as goal

pub returns-then-is_too_long : goal.returns-then-is_too_long
returns-then-is_too_long c = rw c.at.ensures (one_answer c.args.file.now (Err _) (too_large (c.is_too_long.ensures.0 c.if-is_too_long.true) refl refl))

pub returns-in_err-order : goal.returns-in_err-order
returns-in_err-order c =
    let p = err_from_is_err_and c.from_residual.result c.from_residual.ensures.1 in
    let bad = c.in_err-order.ensures in
    rw (p.1, p.2) (one_answer c.args.file.now (Err _) (at_stages (short_enough _ c.is_too_long.ensures c.if-is_too_long.false) (rw (← c.new-reader.ensures.0) bad.0) (bad.1 c.new-reader.ensures.1)))

pub returns-in_err-book : goal.returns-in_err-book
returns-in_err-book c =
    let p = err_from_is_err_and c.from_residual-in_err-book.result c.from_residual-in_err-book.ensures.1 in
    let bad = c.in_err-book.ensures in
    let stages = c.in_ok-order.ensures in
    rw (p.1, p.2) (one_answer c.args.file.now (Err _)
    (at_book (short_enough _ c.is_too_long.ensures c.if-is_too_long.false) _ _ _ (sym c.new-reader.ensures.0 ∙ stages.0) bad.0 bad.1 bad.2 (omega (arith, bad.3, stages.1, c.new-reader.ensures.1))))

pub returns-in_err-keys : goal.returns-in_err-keys
returns-in_err-keys c =
    let p = err_from_is_err_and c.from_residual-in_err-keys.result c.from_residual-in_err-keys.ensures.1 in
    let bad = c.in_err-keys.ensures in
    let stages = c.in_ok-order.ensures in
    let book = c.in_ok-book.ensures.2 in
    let order = c.in_ok-order.order in
    let shape = sym c.new-reader.ensures.0 ∙ stages.0 ∙ ap (λ l. stages_bytes order.0.0 order.1.0 ++ l) book.shape in
    rw (p.1, p.2) (one_answer c.args.file.now (Err _)
    (at_keys (short_enough _ c.is_too_long.ensures c.if-is_too_long.false) _ _ c.in_ok-book.ensures.0 _ shape bad.0 bad.1 (omega (arith, bad.2, book.place, stages.1, c.new-reader.ensures.1))))

pub returns : goal.returns
returns c =
    let head = whole_head c.args.file.now c.new-reader.result c.stages.new.reader c.book.new.reader c.known_keys.new.reader
    (short_enough _ c.is_too_long.ensures c.if-is_too_long.false) c.new-reader.ensures.0 c.new-reader.ensures.1 c.in_ok-order.order c.in_ok-book.book c.in_ok-keys.keys
    c.in_ok-order.ensures c.in_ok-book.ensures c.in_ok-keys.ensures in
    one_answer c.args.file.now (Ok _) head
