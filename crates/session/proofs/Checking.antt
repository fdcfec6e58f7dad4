-- Checks one after another, and what the parts of the code answer to them.
use Rattle.std.proofs.Common.{◌≡◌, ℕ, zero, suc, List, [], ◌∷◌, take, Err, Result, IsErrAnd, sym, refl, ap, ◌∙◌, subst, inl, inr}
use Rattle.std.proofs.lemmas.Result.{err_from_is_err_and}
use Rattle.question.specs.declared.row.WordError.{WordError}
use Rattle.question.specs.declared.row.WordError.TheVariants.{TooLong as Long, SymbolTooHigh as High}
use Rattle.question.specs.Rows.{IsMade}
use Rattle.session.specs.declared.fault.Fault.{Fault}
use Rattle.session.specs.declared.fault.Fault.TheVariants.{SymbolTooHigh, TooLong}
use Rattle.session.specs.Checks.{Check, ◌unless◌, RefusedBy, Checked}
use Rattle.session.specs.Faults.{fault_of}

-- One of the first n checks refuses.
pub at_first : (n : ℕ) (cs : List Check) (f : Fault) → RefusedBy f (take n cs) → RefusedBy f cs
at_first zero cs f r = absurd r
at_first (suc n) [] f r = absurd r
at_first (suc n) ((_ unless _) ∷ cs) f (inl r) = inl r
at_first (suc n) ((_ unless _) ∷ cs) f (inr (h, r)) = inr (h, at_first n cs f r)

-- At the exit of a `?`.
pub checked_out : {A : Type 0} (cs : List Check) (r : Result A Fault) (P : A → Type 0) (f : Fault) → IsErrAnd r (λ y. y ≡ f) → RefusedBy f cs → Checked cs r P
checked_out cs r P f e h =
    let (y, is, same) = err_from_is_err_and r e in
    subst (λ x. Checked cs x P) (sym (is ∙ ap Err same)) h

-- Words that make no row and no rule are refused by the check of their lengths or of their symbols.
pub no_words : {X : Type 0} {fits symbols : Type 0} (Short : Type 0) (Q : X → Type 0) → (Short → fits) → (fits → Short) → (e : WordError) → IsMade fits symbols Q (Err e) →
    RefusedBy (fault_of e) (TooLong unless Short ∷ SymbolTooHigh unless symbols ∷ [])
no_words Short Q back on Long h = inl (λ short. h (back short), refl)
no_words Short Q back on High (fits, bad) = inr (on fits, inl (bad, refl))
