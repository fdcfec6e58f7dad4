use Rattle.std.proofs.Common.{ℕ, List, Decides, rules, subst, ap}
use Rattle.std.proofs.lemmas.Bool.Decides.{Decides-like}
use Rattle.model.specs.Books.{Entry}
use Rattle.model.specs.Sieves.{Caught}
use Rattle.model.specs.Symbols.{Symbols}
use Rattle.model.proofs.Entries.{any_entry}
use Rattle.model.proofs.book.BookPool.meets.Goals as goal

pub returns : goal.returns
returns c =
    let Wanted = λ (w : List ℕ). Symbols w × Caught c.args.sieve w in
    let found = any_entry (λ s. s.0.now) _ _ Wanted (λ x b q k. (ap (λ r. record { 0 = r }) k.met.1, search rules)) c.any.result c.entries.result c.any.new.self c.any.ensures.ran in
    Decides-like _
    (λ h. (h.0, (h.1, h.2.0), h.2.1))
    (λ h. (h.0, h.1.0, (h.1.1, h.2)))
    (subst (λ bytes. Decides c.any.result ((w : List ℕ) × Entry w bytes × Wanted w)) c.entries.ensures found)
