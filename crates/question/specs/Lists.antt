-- Membership in a list, room in a list, and lists of numbers.
use Rattle.std.specs.Prelude.{◌≡◌, ℕ, zero, suc, ◌-◌, ◌<◌, List, [], ◌∷◌, length, Result, MatchResult}

module _ {A : Type 0} where
  -- a is an element.
  pub data In (a : A) : List A → Type 0 where
    here : {b : A} {rest : List A} → a ≡ b → In a (b ∷ rest)
    there : {b : A} {rest : List A} → In a rest → In a (b ∷ rest)

  -- No element stands twice.
  abbrev pub Once : List A → Type 0
  Once [] = Unit {0}
  Once (a ∷ rest) = (In a rest → ⊥) × Once rest

-- The m numbers from a on.
abbrev pub numbers : ℕ → ℕ → List ℕ
numbers a zero = []
numbers a (suc m) = a ∷ numbers (suc a) m

-- The numbers a, .., n - 1.
abbrev pub between : ℕ → ℕ → List ℕ
between a n = numbers a (n - a)

-- A list with room for so many items has become `whole`, or `whole` has more items than there is room for.
abbrev pub Becomes : {X T E : Type 0} → ℕ → List X → Result T E → List X → Type 0
Becomes most whole r after = MatchResult r (λ _. after ≡ whole) (λ _. most < length whole)
