-- The weight of a climb, by recursion.
use Rattle.std.proofs.Common.{◌≡◌, ℕ, zero, suc, ◌+◌, ◌-◌, ◌*◌, ◌≤◌, List, [], ◌∷◌, length, sum_by, sym, refl, ap, ◌∙◌, ap₂, mul-le-mul_left, one-add, arith}
use native.Mathlib.Nat.{sub-zero, suc-sub-suc}
use Rattle.std.proofs.lemmas.List.Sums.{sum_by-cons}
use Rattle.question.specs.Lists.{numbers}
use Rattle.question.specs.Runs.{Rule, Climb, rule}
use Rattle.question.specs.Rises.{height, changing, stage, weight}
use Rattle.question.specs.Theorems.{WeightGoesOn, LongWeighs}

sum_shifts : (f g : ℕ → ℕ) → ((i : ℕ) → f (suc i) ≡ g i) → (a m : ℕ) → sum_by f (numbers (suc a) m) ≡ sum_by g (numbers a m)
sum_shifts f g h a zero = refl
sum_shifts f g h a (suc m) =
    sum_by-cons f (suc a) (numbers (suc (suc a)) m) ∙ ap₂ ◌+◌ (h a) (sum_shifts f g h (suc a) m) ∙ sym (sum_by-cons g a (numbers (suc a) m))

regroup : (a b x y : ℕ) → (a + x) + (b + y) ≡ (a + b) + (x + y)
regroup a b x y = omega arith

pub weight_goes_on : WeightGoesOn
weight_goes_on rules k c =
    let n = length c in
    let high : ℕ → ℕ = λ i. (suc n - i) * (1 + height rules (stage rules (k ∷ c) i)) in
    let wide : ℕ → ℕ = λ i. length (changing rules (k ∷ c) i).left - 1 in
    let a = sum_by-cons high 0 (numbers 1 n) ∙ ap (λ (m : ℕ). high 0 + m) (sum_shifts high _ (λ i. ap (λ (m : ℕ). m * (1 + height rules (stage rules c i))) (suc-sub-suc n i)) 0 n) in
    let b = sum_by-cons wide 0 (numbers 1 n) ∙ ap (λ (m : ℕ). wide 0 + m) (sum_shifts wide _ (λ i. refl) 0 n) in
    ap₂ ◌+◌ a b ∙ regroup (high 0) (wide 0) _ _ ∙ rw (sub-zero, one-add n)

module _ (rules : List Rule) where
  -- Each rule adds at least one for itself and one for each rule after it.
  weighs_more : (k : ℕ) (c : Climb) → 1 + length c + weight rules c ≤ weight rules (k ∷ c)
  weighs_more k c =
      let many : (1 + length c) * 1 ≤ (1 + length c) * (1 + height rules (rule rules k).from) = mul-le-mul_left (1 + length c) (omega arith) in
      omega (arith, weight_goes_on rules k c)

pub long_weighs : LongWeighs
long_weighs rules [] h = absurd (omega arith)
long_weighs rules (j ∷ []) h = absurd (omega arith)
long_weighs rules (j ∷ (k ∷ [])) h = absurd (omega arith)
long_weighs rules (j ∷ (k ∷ (l ∷ []))) h = absurd (omega arith)
long_weighs rules (j ∷ (k ∷ (l ∷ (m ∷ [])))) h = absurd (omega arith)
long_weighs rules (j ∷ (k ∷ (l ∷ (m ∷ (n ∷ c))))) h =
    let a = weighs_more rules j (k ∷ (l ∷ (m ∷ (n ∷ c)))) in
    let b = weighs_more rules k (l ∷ (m ∷ (n ∷ c))) in
    let d = weighs_more rules l (m ∷ (n ∷ c)) in
    let e = weighs_more rules m (n ∷ c) in
    let f = weighs_more rules n c in
    omega arith
