-- Of two climbs one is earlier, unless they are equal; so a question has one answer.
use Rattle.std.proofs.Common.{◌≡◌, ◌<◌, ◌⊎◌, [], ◌∷◌, length, sym, refl, ap, inl, inr, arith}
use Rattle.std.proofs.lemmas.Bool.{cases_order}
use Rattle.question.specs.Runs.{Word, Climb}
use Rattle.question.specs.Verdicts.{Lower, Earlier, Earliest, Verdict.out, Verdict.in_by, Verdict.too_heavy}
use Rattle.question.specs.Theorems.{OneAnswer}

one_lower : (c d : Climb) → length c ≡ length d → (c ≡ d) ⊎ (Lower c d ⊎ Lower d c)
one_lower [] [] e = inl refl
one_lower [] (k ∷ d) e = absurd (omega arith)
one_lower (j ∷ c) [] e = absurd (omega arith)
one_lower (j ∷ c) (k ∷ d) e = cases (cases_order j k) (one_lower c d (omega arith))
  where
    cases : (j ≡ k) ⊎ ((j < k) ⊎ (k < j)) → (c ≡ d) ⊎ (Lower c d ⊎ Lower d c) → (j ∷ c ≡ k ∷ d) ⊎ (Lower (j ∷ c) (k ∷ d) ⊎ Lower (k ∷ d) (j ∷ c))
    cases (inr (inl h)) r = inr (inl (inl h))
    cases (inr (inr h)) r = inr (inr (inl h))
    cases (inl i) (inl f) = inl (cc)
    cases (inl i) (inr (inl l)) = inr (inl (inr (i, l)))
    cases (inl i) (inr (inr l)) = inr (inr (inr (sym i, l)))

one_earlier : (c d : Climb) → (c ≡ d) ⊎ (Earlier c d ⊎ Earlier d c)
one_earlier c d = cases (cases_order (length c) (length d))
  where
    same : (length c ≡ length d) → (c ≡ d) ⊎ (Lower c d ⊎ Lower d c) → (c ≡ d) ⊎ (Earlier c d ⊎ Earlier d c)
    same e (inl f) = inl f
    same e (inr (inl l)) = inr (inl (inr (e, l)))
    same e (inr (inr l)) = inr (inr (inr (sym e, l)))

    cases : (length c ≡ length d) ⊎ ((length c < length d) ⊎ (length d < length c)) → (c ≡ d) ⊎ (Earlier c d ⊎ Earlier d c)
    cases (inl e) = same e (one_lower c d e)
    cases (inr (inl h)) = inr (inl (inl h))
    cases (inr (inr h)) = inr (inr (inl h))

pub one_earliest : (X : Climb → Type 0) (c d : Climb) → Earliest X c → Earliest X d → c ≡ d
one_earliest X c d a b = cases (one_earlier c d)
  where
    cases : (c ≡ d) ⊎ (Earlier c d ⊎ Earlier d c) → c ≡ d
    cases (inl e) = e
    cases (inr (inl h)) = absurd (b.first c a.holds h)
    cases (inr (inr h)) = absurd (a.first d b.holds h)

pub one_answer : (P : Word → Type 0) → OneAnswer P
one_answer P rules p g added out out m n s t = refl
one_answer P rules p g added out (in_by d) m n s t = absurd (s d t.holds)
one_answer P rules p g added (in_by c) out m n s t = absurd (t c s.holds)
one_answer P rules p g added (in_by c) (in_by d) m n s t = ap in_by (one_earliest _ c d s t)
one_answer P rules p g added out too_heavy m n s t = absurd (n refl)
one_answer P rules p g added (in_by c) too_heavy m n s t = absurd (n refl)
one_answer P rules p g added too_heavy w m n s t = absurd (m refl)
