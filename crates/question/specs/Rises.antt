-- Rises and their weights.
use Rattle.std.specs.Prelude.{ℕ, ◌+◌, ◌-◌, ◌*◌, ◌<◌, Bool, true, false, cond, ◌&&◌, ◌≢◌, List, [], ◌∷◌, ◌++◌, map, length, sum_by, filter, ◌==◌, slice_index}
use Rattle.std.specs.List.{flat_map}
use Rattle.std.specs.Str.{bytes_eq}
use Rattle.question.specs.Lists.{numbers}
use Rattle.question.specs.Runs.{Word, Rule, Climb, rule, Leads}

-- The beginnings of a word that are neither empty nor the whole word, the shortest first.
abbrev pub beginnings : Word → List Word
beginnings [] = []
beginnings (a ∷ []) = []
beginnings (a ∷ (b ∷ w)) = (a ∷ []) ∷ map (λ u. a ∷ u) (beginnings (b ∷ w))

-- Whether u is one of the words.
abbrev pub among : Word → List Word → Bool
among u [] = false
among u (v ∷ vs) = cond (bytes_eq u v) true (among u vs)

-- The words of `seen`, and then those of the list that are not among them yet, each once.
abbrev pub kept : List Word → List Word → List Word
kept seen [] = seen
kept seen (u ∷ us) = kept (cond (among u seen) seen (seen ++ (u ∷ []))) us

-- Each of the words once, where it first stands.
abbrev pub distinct : List Word → List Word
distinct us = kept [] us

-- Whether the rule stays at the stage p.
abbrev pub stays_at : ℕ → Rule → Bool
stays_at p r = r.from == p && r.to == p

-- A rise that weighs more is too heavy.
abbrev pub weight_limit : ℕ
weight_limit = 11

module _ (rules : List Rule) where
  -- The rules of these numbers are changing, and lead from p to g, each from where the one before it leads to.
  pub data Rise : ℕ → Climb → ℕ → Type 0 where
    none : {p : ℕ} → Rise p [] p
    then : {k p q g : ℕ} {c : Climb} → Leads rules k p q → p ≢ q → Rise q c g → Rise p (k ∷ c) g

  -- The staying rules of the stage p.
  abbrev pub staying : ℕ → List Rule
  staying p = filter (stays_at p) rules

  -- The different beginnings of left sides of the staying rules of p.
  abbrev pub begun : ℕ → List Word
  begun p = distinct (flat_map (λ r. beginnings r.left) (staying p))

  -- How many they are.
  abbrev pub height : ℕ → ℕ
  height p = length (begun p)

  -- Rule i of a climb, counted from 0.
  abbrev pub changing : Climb → ℕ → Rule
  changing climb i = rule rules (slice_index climb i)

  -- The stage before rule i of a climb.
  abbrev pub stage : Climb → ℕ → ℕ
  stage climb i = (changing climb i).from

  -- Of a rise of n rules, rule i adds n - i times one more than the height of the stage before it, and one less than the
  -- length of its left side (an empty left side adds nothing, since `-` stops at 0).
  abbrev pub weight : Climb → ℕ
  weight climb =
      let n = length climb in
      sum_by (λ i. (n - i) * (1 + height (stage climb i))) (numbers 0 n) + sum_by (λ i. length (changing climb i).left - 1) (numbers 0 n)

  -- Some rise from p to g is too heavy.
  abbrev pub Heavy : ℕ → ℕ → Type 0
  Heavy p g = (c : Climb) × Rise p c g × (weight_limit < weight c)
