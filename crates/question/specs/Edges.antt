-- Cases in which a definition could be read in two ways.
use Rattle.std.specs.Prelude.{◌≡◌, ℕ, List, [], ◌∷◌}
use Prim.Native.String.{String}
use Rattle.question.specs.Notation.{hex, turn, book}
use Rattle.question.specs.Runs.{Word, Rule, Makes, Reaches}
use Rattle.question.specs.Verdicts.{Verdict.in_by, Means}

pub record Edges : Type 0 where
  -- an empty left side fits every word, the empty word too
  pub empty_left : (w : Word) → Makes (turn 0 "" 1 "2") w (2 ∷ w)
  -- a left side is matched at the beginning of a word, and nowhere else
  pub not_within : (w : Word) → Makes (turn 0 "1" 1 "2") (hex "31") w → ⊥
  -- a rule with equal sides makes the word that it found
  pub equal_sides : (v w : Word) → Makes (turn 0 "1" 1 "1") v w → v ≡ w
  -- no step is needed to be at the present stage, whatever the rules and the words are
  pub already_there : (rules : List Rule) (entries : List String) (p : ℕ) (added : List Word) → Means rules (book entries) p added p (in_by [])
  -- of two equal rules each has its own number, and the lower one comes earlier
  pub equal_rules : Means (turn 0 "1" 1 "2" ∷ turn 0 "1" 1 "2" ∷ []) (book ("1F" ∷ [])) 0 [] 1 (in_by (0 ∷ []))
  pub equal_rules_both : Reaches (turn 0 "1" 1 "2" ∷ turn 0 "1" 1 "2" ∷ []) (book ("1F" ∷ [])) 0 [] (1 ∷ []) 1
