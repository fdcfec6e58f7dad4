-- From what weighing and search answer to the verdict.
use Rattle.std.proofs.Common.{◌≡◌, ℕ, Bool, true, false, ◌↔◌, List, [], Option, Some, None, MatchOption, Decides, refl}
use Rattle.std.proofs.lemmas.Bool.Decides.{not_from_Decides}
use Rattle.question.specs.Feasible.{Servable}
use Rattle.question.specs.Judging.{Ruled, Cleared}
use Rattle.question.specs.Orders.{Order, NeverFalls}
use Rattle.question.specs.Rises.{Rise, Heavy}
use Rattle.question.specs.Runs.{Word, Rule, Climb, Reaches}
use Rattle.question.specs.Search.{climb_of, ShortRise, Sought}
use Rattle.question.specs.Weighing.{NeverLong}
use Rattle.question.specs.declared.climb.Climb.{Climb as Found}
use Rattle.question.specs.declared.verdict.Verdict.{Verdict}
use Rattle.question.specs.declared.verdict.Verdict.TheVariants.{Out, In, TooHeavy}
use Rattle.question.proofs.Answered.{light_weighs, means_out, means_in}
use Rattle.question.proofs.Criterion.{criterion}
use Rattle.question.proofs.Rises.{rise_short}

module _ (size : ℕ) (above : ℕ → ℕ → Type 0) (order : Order size above) (P : Word → Type 0) (rules : List Rule) (p g : ℕ) {heavy : Bool} (weighed : NeverLong rules → Decides heavy (Heavy rules p g)) where
  told : NeverFalls size above rules → Decides heavy (Heavy rules p g)
  told never = weighed (rise_short size above order rules never)

  pub ruled_heavy : (cells : List ℕ) → heavy ≡ true → Ruled size above P rules p g cells TooHeavy cells
  ruled_heavy cells e = record { judged = λ never. record { means = (told never).0 e; light = λ other. absurd (other refl) }; cells = refl }

  -- No rise is too heavy.
  module _ (e : heavy ≡ false) {before after : List ℕ} (cleared : Cleared before after) where
    light : NeverFalls size above rules → Heavy rules p g → ⊥
    light never = not_from_Decides _ (told never) e

    runs : NeverFalls size above rules → (c : Climb) → Rise rules p c g → (Servable rules P c ↔ Reaches rules P p [] c g)
    runs never c r = (λ s. (criterion P rules p g [] c).1 (r, s.1), λ t. (light_weighs rules p g (light never) c r, ((criterion P rules p g [] c).0 t).1))

    -- The verdict is what the search found.
    pub ruled_found : (found : Option Found) → Sought (ShortRise rules p g (Servable rules P)) found → {verdict : Verdict} → MatchOption found (verdict ≡ Out) (λ c. verdict ≡ In c) →
        Ruled size above P rules p g before verdict after
    ruled_found None no_climb is =
        rw is (record { judged = λ never. record { means = means_out rules p g (light never) P [] (Servable rules P) (runs never) no_climb; light = λ _. light never }; cells = cleared })
    ruled_found (Some c) first is =
        rw is (record { judged = λ never. record { means = means_in rules p g (light never) P [] (Servable rules P) (runs never) (climb_of c) first; light = λ _. light never }; cells = cleared })
