-- A word with the left side of a rule replaced by its right side.
use Rattle.std.proofs.Common.{◌≡◌, ◌+◌, ◌<◌, ◌++◌, length, Some, None, Option, Bor, Ok, Err, Result, IsErrAnd, MatchOption, MatchResult, sym, refl, ap, ◌∙◌, subst, inl, inr, arith, length-append}
use Rattle.std.proofs.ByRecursion.{All-drop}
use Rattle.std.proofs.lemmas.List.Prefix.{front_rest}
use Rattle.std.proofs.lemmas.Result.{err_from_is_err_and}
use Rattle.std.specs.Option.{ok_or}
use Rattle.model.specs.Symbols.{Symbols}
use Rattle.question.specs.declared.row.Row.{Row}
use Rattle.question.specs.declared.row.WordError.{WordError}
use Rattle.question.specs.declared.row.WordError.TheVariants.{TooLong, SymbolTooHigh}
use Rattle.question.specs.Rows.{held, HasRoom, IsMade}
use Rattle.question.specs.Runs.{Word, Rule}
use Rattle.question.proofs.Laid.{length_held}
use Rattle.session.specs.declared.fault.Fault.{Fault}
use Rattle.session.specs.declared.fault.Fault.TheVariants.{OtherBeginning, ResultTooLong}
use Rattle.session.specs.Checks.{RefusedBy, Checked}
use Rattle.session.specs.Ledger.{made_by, result_checks}

-- What follows the left side has symbols if the word has.
rest_symbols : (w left rest : Word) → w ≡ left ++ rest → Symbols w → Symbols rest
rest_symbols w left rest split ok = subst Symbols (front_rest w left rest split) (All-drop (λ s. s < 16) (length left) w ok)

module _ (r : Rule) (w : Word) where
  -- What follows the left side, or the refusal.
  pub begun : (v left : Word) → v ≡ w → left ≡ r.left → (found : Option (Bor Word)) (answer : Result (Bor Word) Fault) → answer ≡ ok_or found OtherBeginning →
      MatchOption found ((rest : Word) → v ≡ left ++ rest → ⊥) (λ rest. v ≡ left ++ rest.now) →
      MatchResult answer (λ rest. w ≡ r.left ++ rest.now) (λ f. RefusedBy f (result_checks r w))
  begun v left is is_left None answer e h =
      subst (λ a. MatchResult a (λ rest. w ≡ r.left ++ rest.now) (λ f. RefusedBy f (result_checks r w))) (sym e)
      (inl (λ (rest, split). h rest (is ∙ split ∙ ap (λ l. l ++ rest) (sym is_left)), refl))
  begun v left is is_left (Some rest) answer e h =
      subst (λ a. MatchResult a (λ rest. w ≡ r.left ++ rest.now) (λ f. RefusedBy f (result_checks r w))) (sym e)
      (sym is ∙ h ∙ ap (λ l. l ++ rest.now) is_left)

  module _ (rest : Word) (split : w ≡ r.left ++ rest) where
    pub result_is : r.right ++ rest ≡ made_by r w
    result_is = ap (λ d. r.right ++ d) (sym (front_rest w r.left rest split))

    -- The right side and what follows the left side, joined in a row.
    pub joined : (right : Word) → right ≡ r.right → Symbols right → Symbols w → (row : Result (Row 32) WordError) (answer : Result (Row 32) Fault) {Q : WordError → Fault → Type 0} →
        ((e : WordError) (f : Fault) → Q e f → f ≡ ResultTooLong) →
        IsMade (HasRoom 32 (length right + length rest)) (Symbols right × Symbols rest) (λ row. held row ≡ right ++ rest) row →
        MatchResult row (λ x. answer ≡ Ok x) (λ e. IsErrAnd answer (Q e)) → Checked (result_checks r w) answer (λ row. held row ≡ made_by r w)
    joined right is good good_word (Ok row) answer by (_, _, made) e =
        let same : held row ≡ made_by r w = made ∙ ap (λ v. v ++ rest) is ∙ result_is in
        subst (λ a. Checked (result_checks r w) a (λ row. held row ≡ made_by r w)) (sym e) (((rest, split), (omega (arith, ap length same, length_held row, row.short), tt)), same)
    joined right is good good_word (Err TooLong) answer by unfit e =
        let long : length right + length rest ≡ length (made_by r w) = sym (length-append right rest) ∙ ap (λ v. length (v ++ rest)) is ∙ ap length result_is in
        let (f, err, q) = err_from_is_err_and answer e in
        subst (λ a. Checked (result_checks r w) a (λ row. held row ≡ made_by r w)) (sym (err ∙ ap Err (by TooLong f q))) (inr ((rest, split), inl (λ short. unfit (omega arith, omega (arith, long)), refl)))
    joined right is good good_word (Err SymbolTooHigh) answer by (_, bad) e = absurd (bad (good, rest_symbols w r.left rest split good_word))
