use Rattle.std.proofs.Common.{rules, tests, ◌∙◌}
use Rattle.std.proofs.lemmas.Iterator.{YieldsList-from_slice}
use Rattle.std.proofs.lemmas.Iterator.Search.{any_from_yields_List}
use Rattle.std.specs.Str.{bytes_eq}
use Rattle.question.specs.Rows.{held}
use Rattle.question.proofs.Kept.{any_among}
use Rattle.question.proofs.begun.has.Goals as goal

pub returns : goal.returns
returns c =
    let words = c.args.words.now in
    any_from_yields_List (λ row. bytes_eq c.args.word.now (held row)) _ _ _ c.any.ensures.ran (YieldsList-from_slice words cc) (λ row b q k. search (rules, tests))
    ∙ any_among c.args.word.now words
