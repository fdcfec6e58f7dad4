-- Cases at the edge of the definitions.
use Rattle.std.proofs.Common.{◌≡◌, ℕ, List, [], ◌∷◌, sym, refl, ◌∙◌, inl, inr, arith}
use Rattle.question.specs.Runs.{Rule, Climb, Reaches}
use Rattle.question.specs.Rises.{Rise, Rise.none}
use Rattle.question.specs.Verdicts.{Earlier}
use Rattle.question.specs.Notation.{hex, turn, book}
use Rattle.question.specs.Edges.{Edges}
use Rattle.question.proofs.Runs.{climb_rises}
use Rattle.question.proofs.Meanings.{one_f}
use Rattle.question.proofs.Stepping.{changes, arrived}

abbrev twice : List Rule
twice = turn 0 "1" 1 "2" ∷ turn 0 "1" 1 "2" ∷ []

empty_ends : {rules : List Rule} {p g : ℕ} → Rise rules p [] g → p ≡ g
empty_ends none = refl

-- Only the climb of no rules is earlier than that of rule 0, and it ends where it began.
none_before : (d : Climb) → Reaches twice (book ("1F" ∷ [])) 0 [] d 1 → Earlier d (0 ∷ []) → ⊥
none_before [] r h = omega (arith, empty_ends (climb_rises twice _ r.1))
none_before (j ∷ d) r (inl h) = omega arith
none_before (j ∷ d) r (inr (e, inl h)) = omega arith
none_before (j ∷ []) r (inr (e, inr h)) = h.1
none_before (j ∷ (k ∷ d)) r (inr (e, inr h)) = omega arith

nothing_earlier : (d : Climb) → Earlier d [] → ⊥
nothing_earlier d (inl h) = omega arith
nothing_earlier [] (inr (e, h)) = h
nothing_earlier (j ∷ d) (inr (e, h)) = h

pub edges : Edges
edges = record {
  empty_left = λ w. record { rest = w; before = refl; after = refl };
  not_within = λ w m. let before = m.before in let z : ◌≡◌ {A = ℕ} 3 1 = cc in omega arith;
  equal_sides = λ v w m. m.before ∙ sym m.after;
  already_there = λ rules entries p added. record { holds = arrived; first = λ d r. nothing_earlier d };
  equal_rules = record { holds = changes 0 (hex "F") tt (omega arith) one_f arrived; first = none_before };
  equal_rules_both = changes 1 (hex "F") tt (omega arith) one_f arrived;
}
