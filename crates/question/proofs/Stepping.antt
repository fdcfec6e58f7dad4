-- Runs by hand, step by step: rule k on its left side round t.
use Rattle.std.proofs.Common.{◌≡◌, ℕ, T, ltb, ◌≢◌, List, [], ◌∷◌, ◌++◌, length, refl, subst, ltb→lt}
use Rattle.question.specs.Runs.{Word, Rule, Pool, Climb, rule, Leads, Step, Run.done, Run.stay, Run.rise, Reaches}

pub leads : (rules : List Rule) (k : ℕ) → T (ltb k (length rules)) → Leads rules k (rule rules k).from (rule rules k).to
leads rules k there = record { listed = ltb→lt k (length rules) there; from = refl; to = refl }

module _ {rules : List Rule} {P : Word → Type 0} (k : ℕ) (t : Word) (there : T (ltb k (length rules))) {added : List Word} where
  step : Pool P added ((rule rules k).left ++ t) → Step rules P k (rule rules k).from (rule rules k).to added ((rule rules k).right ++ t)
  step found = record { leads = leads rules k there; old = (rule rules k).left ++ t; found = found; makes = record { rest = t; before = refl; after = refl } }

  pub changes : {g : ℕ} {c : Climb} → (rule rules k).from ≢ (rule rules k).to → Pool P added ((rule rules k).left ++ t) →
      Reaches rules P (rule rules k).to (((rule rules k).right ++ t) ∷ added) c g → Reaches rules P (rule rules k).from added (k ∷ c) g
  changes n found r = (r.0, rise (step found) n r.1)

  pub stays : {g : ℕ} {c : Climb} → (rule rules k).to ≡ (rule rules k).from → Pool P added ((rule rules k).left ++ t) →
      Reaches rules P (rule rules k).from (((rule rules k).right ++ t) ∷ added) c g → Reaches rules P (rule rules k).from added c g
  stays e found r = (r.0, stay (subst (λ q. Step rules P k (rule rules k).from q added ((rule rules k).right ++ t)) e (step found)) r.1)

pub arrived : {rules : List Rule} {P : Word → Type 0} {p : ℕ} {added : List Word} → Reaches rules P p added [] p
arrived {added = added} = (added, done)
