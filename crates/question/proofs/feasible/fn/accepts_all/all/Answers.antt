use Rattle.std.proofs.Common.{◌≡◌, false, Option, None, Some, sym, ◌∙◌, refl}
use Rattle.std.specs.Option.{is_some}
use Rattle.std.proofs.lemmas.Bool.Decides.{Decides-like}
use Rattle.question.proofs.feasible.fn.accepts_all.all.Goals as goal

none_from : {A : Type 0} (o : Option A) → is_some o ≡ false → o ≡ None
none_from None e = refl
none_from (Some x) e = cc

pub returns-else-is_some : goal.returns-else-is_some
returns-else-is_some g c cs t = Decides-like _ (λ h _. h) (λ h. h (none_from _ (sym c.is_some.ensures ∙ c.if-is_some.false))) (c.accepts_some.ensures cs t)
