-- Laws of `All` and `between`.
use Rattle.std.proofs.Common.{◌≡◌, ℕ, zero, suc, ◌+◌, ◌-◌, ◌<◌, ◌≤◌, Bool, true, List, [], ◌∷◌, length, get_or, filter, sym, refl, ap, ◌∙◌, subst, add-one, arith}
use Rattle.std.proofs.ByRecursion.{All-append}
use Rattle.std.proofs.lemmas.Bool.{cond_both}
use Rattle.std.specs.List.{flat_map, AllByRecursion as All}
use Rattle.question.specs.Lists.{In, In.here, In.there, numbers, between}
use Rattle.question.proofs.Lists.{in_numbers}

module _ {A : Type 0} {a : A} where
  pub in_get_d : (d : A) (l : List A) (k : ℕ) → k < length l → a ≡ get_or l k d → In a l
  in_get_d d [] k less e = absurd (omega arith)
  in_get_d d (b ∷ l) zero less e = here e
  in_get_d d (b ∷ l) (suc k) less e = there (in_get_d d l k (omega arith) e)

pub in_one : {A : Type 0} {a b : A} → In a (b ∷ []) → a ≡ b
in_one (here e) = e
in_one (there i) = elim i [ ]

module _ {A : Type 0} (X : A → Type 0) where
  pub all_in : {a : A} {l : List A} → All X l → In a l → X a
  all_in h (here e) = subst X (sym e) h.0
  all_in h (there i) = all_in h.1 i

  pub all_from_in : (l : List A) → ((a : A) → In a l → X a) → All X l
  all_from_in [] h = tt
  all_from_in (a ∷ l) h = (h a (here refl), all_from_in l (λ b i. h b (there i)))

  pub all_kept_if : (test : A → Bool) (l : List A) → All (λ a. test a ≡ true → X a) l → All X (filter test l)
  all_kept_if test [] h = tt
  all_kept_if test (a ∷ l) h =
      let rest = all_kept_if test l h.1 in
      cond_both (test a) (a ∷ filter test l) _ (All X) (λ t. (h.0 t, rest)) (λ _. rest)

pub all_joined : {A B : Type 0} (f : A → List B) (X : B → Type 0) (l : List A) → All (λ a. All X (f a)) l → All X (flat_map f l)
all_joined f X [] h = tt
all_joined f X (a ∷ l) h = All-append X (f a) (flat_map f l) h.0 (all_joined f X l h.1)

pub all_numbers : (X : ℕ → Type 0) (a m : ℕ) → ((k : ℕ) → a ≤ k → k < a + m → X k) → All X (numbers a m)
all_numbers X a zero h = tt
all_numbers X a (suc m) h = (h a (omega arith) (omega arith), all_numbers X (suc a) m (λ k low high. h k (omega arith) (omega arith)))

pub in_between : (k a n : ℕ) → a ≤ k → k < n → In k (between a n)
in_between k a n low high = in_numbers k a (n - a) low (omega arith)

pub all_between : (X : ℕ → Type 0) (a n : ℕ) → ((k : ℕ) → a ≤ k → k < n → X k) → All X (between a n)
all_between X a n h = all_numbers X a (n - a) (λ k low high. h k low (omega arith))

pub between_first : (k n : ℕ) → k < n → between k n ≡ k ∷ between (k + 1) n
between_first k n less =
    let more : n - k ≡ suc (n - (k + 1)) = omega arith in
    ap (numbers k) more ∙ ap (λ a. k ∷ numbers a (n - (k + 1))) (sym (add-one k))

pub between_past : (k n : ℕ) → n ≤ k → between k n ≡ []
between_past k n le = let none : n - k ≡ 0 = omega arith in ap (numbers k) none
