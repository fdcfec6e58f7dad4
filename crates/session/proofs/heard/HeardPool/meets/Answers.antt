use Rattle.std.proofs.Common.{rules}
use Rattle.std.proofs.lemmas.Iterator.{YieldsList-from_slice}
use Rattle.model.proofs.Passes.{any_decides}
use Rattle.model.specs.Sieves.{Caught}
use Rattle.question.specs.Rows.{held}
use Rattle.session.specs.Tables.{items}
use Rattle.session.proofs.Pools.{some_word}
use Rattle.session.proofs.heard.HeardPool.meets.Goals as goal

pub returns : goal.returns
returns c =
    let h = c.args.self.now in
    let found = any_decides (λ row. Caught c.args.sieve (held row)) _ _ _ c.any.ensures.ran (YieldsList-from_slice (items h) (cc c.as_slice.ensures)) (λ x b q k. search rules) in
    some_word (Caught c.args.sieve) (items h) c.any.result found
