use Rattle.std.proofs.Common.{rules, ap, ◌∙◌}
use Rattle.std.proofs.lemmas.Iterator.Adapters.{YieldsList-from_rev_slice}
use Rattle.std.proofs.lemmas.Iterator.Consumers.{fold_from_yields_List}
use Rattle.model.specs.Sieves.{next, run}
use Rattle.model.proofs.KeyWords.{run_is_fold}
use Rattle.model.proofs.sieve.Sieve.run.Goals as goal

pub returns : goal.returns
returns c =
    let table = c.args.self.now.table.now in
    let word = c.args.word.now in
    fold_from_yields_List _ (next table) _ _ c.fold.ensures.ran (YieldsList-from_rev_slice word cc) (λ a x b q k. search rules)
    ∙ run_is_fold table _ word ∙ ap (λ m. run table m word) c.in_range.ensures
