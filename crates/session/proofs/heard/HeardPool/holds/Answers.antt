use Rattle.std.proofs.Common.{◌≡◌, refl, subst, rules}
use Rattle.std.proofs.lemmas.Bool.Decides.{Decides-like, Decides-eqb}
use Rattle.std.proofs.lemmas.Iterator.{YieldsList-from_slice}
use Rattle.std.proofs.lemmas.Slice.Eq.{slice_eq-Decides}
use Rattle.std.specs.List.{ContainsAt}
use Rattle.model.proofs.Passes.{any_decides}
use Rattle.model.specs.Symbols.{Symbols}
use Rattle.question.specs.Rows.{held}
use Rattle.session.specs.Sessions.{words_in}
use Rattle.session.specs.Tables.{items}
use Rattle.session.proofs.Pools.{some_word}
use Rattle.session.proofs.heard.HeardPool.holds.Goals as goal

pub returns : goal.returns
returns c =
    let h = c.args.self.now in
    let word = c.args.word.now in
    let found = any_decides (λ row. held row ≡ word) _ _ _ c.any.ensures.ran (YieldsList-from_slice (items h) (cc c.as_slice.ensures)) (λ x b q k. search (rules, slice_eq-Decides, Decides-eqb)) in
    Decides-like _
    (λ (w, (has, symbols), is). (subst (ContainsAt (words_in h)) is has, subst Symbols is symbols))
    (λ heard. (word, heard, refl))
    (some_word (λ w. w ≡ word) (items h) c.any.result found)
