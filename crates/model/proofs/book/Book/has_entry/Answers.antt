use Rattle.std.proofs.Common.{◌≡◌, List, ℕ, Decides, rules, refl, subst, ap}
use Rattle.std.proofs.lemmas.Bool.Decides.{Decides-like, Decides-eqb}
use Rattle.std.proofs.lemmas.Slice.Eq.{slice_eq-Decides}
use Rattle.model.specs.Books.{Entry}
use Rattle.model.proofs.Entries.{any_entry}
use Rattle.model.proofs.book.Book.has_entry.Goals as goal

pub returns : goal.returns
returns c =
    let word = c.args.word.now in
    let found = any_entry (λ s. s.0.now) _ _ (λ w. w ≡ word) (λ x b q k. (ap (λ r. record { 0 = r }) k.met.1, search (rules, slice_eq-Decides, Decides-eqb))) c.any.result c.entries.result c.any.new.self c.any.ensures.ran in
    Decides-like _
    (λ h. subst (λ w. Entry w c.args.self.now.0.now) h.2 h.1)
    (λ h. (word, h, refl))
    (subst (λ bytes. Decides c.any.result ((w : List ℕ) × Entry w bytes × (w ≡ word))) c.entries.ensures found)
