-- Where no climb is the earliest there is none at all.
use Rattle.std.proofs.Common.{◌≡◌, ℕ, zero, suc, ◌<◌, [], ◌∷◌, length, sym, refl, ◌∙◌, subst, inl, inr, ⊎_elim, arith}
use Rattle.question.specs.Runs.{Climb}
use Rattle.question.specs.Verdicts.{Lower, Earliest}

-- What holds of each number if it holds of all lower ones.
below : (Y : ℕ → Type 0) → ((n : ℕ) → ((m : ℕ) → m < n → Y m) → Y n) → (n : ℕ) → Y n
below Y step n = step n (all n)
  where
    all : (n m : ℕ) → m < n → Y m
    all zero m l = absurd (omega arith)
    all (suc n) m l = step m (λ k j. all n k (omega arith))

-- A climb that is lower than j ∷ d begins with a lower number, or with j and goes on lower than d.
lower_cases : (n : ℕ) (Y : Climb → Type 0) (j : ℕ) (d : Climb) → ((i : ℕ) → i < j → (g : Climb) → length g ≡ n → Y (i ∷ g)) →
    ((g : Climb) → length g ≡ n → Lower g d → Y (j ∷ g)) → (g : Climb) → length g ≡ suc n → Lower g (j ∷ d) → Y g
lower_cases n Y j d lower same [] e l = absurd l
lower_cases n Y j d lower same (i ∷ g) e (inl h) = lower i h g (omega arith)
lower_cases n Y j d lower same (i ∷ g) e (inr (is, l)) = subst (λ x. Y (x ∷ g)) (sym is) (same g (omega arith) l)

-- What holds of each climb of a length if it holds of all lower ones.
below_lower : (n : ℕ) (Y : Climb → Type 0) → ((c : Climb) → length c ≡ n → ((d : Climb) → length d ≡ n → Lower d c → Y d) → Y c) →
    (c : Climb) → length c ≡ n → Y c
below_lower zero Y step [] e = step [] e none
  where
    none : (d : Climb) → length d ≡ 0 → Lower d [] → Y d
    none [] f l = absurd l
    none (k ∷ d) f l = absurd l
below_lower zero Y step (k ∷ c) e = absurd (omega arith)
below_lower (suc n) Y step [] e = absurd (omega arith)
below_lower (suc n) Y step (k ∷ c) e =
    below (λ j. (d : Climb) → length d ≡ n → Y (j ∷ d))
    (λ j lower. below_lower n (λ d. Y (j ∷ d)) (λ d f same. step (j ∷ d) (omega arith) (lower_cases n Y j d lower same)))
    k c (omega arith)

-- Where no climb is the earliest, X holds of none.
pub some_earliest : (X : Climb → Type 0) → ((c : Climb) → Earliest X c → ⊥) → (c : Climb) → X c → ⊥
some_earliest X none c = below (λ n. (d : Climb) → length d ≡ n → X d → ⊥) by (length c) c refl
  where
    by : (n : ℕ) → ((m : ℕ) → m < n → (d : Climb) → length d ≡ m → X d → ⊥) → (d : Climb) → length d ≡ n → X d → ⊥
    by n shorter = below_lower n (λ d. X d → ⊥) (λ d e lower h. none d (record {
      holds = h;
      first = λ g x. ⊎_elim (λ l. shorter (length g) (omega arith) g refl x) (λ s. lower g (s.0 ∙ e) s.1 x);
    }))
