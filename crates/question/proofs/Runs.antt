-- Runs: one after another, over larger pools, and upward.
use Rattle.std.proofs.Common.{◌≡◌, ℕ, List, [], ◌∷◌, ◌++◌, sym, subst, inl, inr, ⊎_elim}
use native.Mathlib.Decide.{ℕ_discrete}
use Rattle.question.specs.Runs.{Word, Rule, Within, Climb, Step, Run, Run.done, Run.stay, Run.rise, Reaches, Out}
use Rattle.question.specs.Rises.{Rise, Rise.none, Rise.then}
use Rattle.question.specs.Verdicts.{Verdict, Verdict.out, Verdict.in_by, Verdict.too_heavy, Means}
use Rattle.question.specs.Theorems.{WordsStay, OutStays, MoreWords, SameWords}

module _ (rules : List Rule) (P : Word → Type 0) where
  append : {p q g : ℕ} {added more most : List Word} {c d : Climb} → Run rules P p added c q more → Run rules P q more d g most → Run rules P p added (c ++ d) g most
  append done s = s
  append (stay a r) s = stay a (append r s)
  append (rise a changes r) s = rise a changes (append r s)

  pub climb_rises : {p q : ℕ} {added more : List Word} {c : Climb} → Run rules P p added c q more → Rise rules p c q
  climb_rises done = none
  climb_rises (stay a r) = climb_rises r
  climb_rises (rise a changes r) = then a.leads changes (climb_rises r)

  -- Each step is a run of its own.
  pub step_runs : {k p q : ℕ} {added : List Word} {new : Word} → Step rules P k p q added new → (c : Climb) × Run rules P p added c q (new ∷ added)
  step_runs {k} {p} {q} {added} {new} s = by (ℕ_discrete q p)
    where
      by : Dec (q ≡ p) → (c : Climb) × Run rules P p added c q (new ∷ added)
      by (yes e) = ([], subst (λ r. Run rules P p added [] r (new ∷ added)) (sym e) (stay (subst (λ r. Step rules P k p r added new) e s) done))
      by (no n) = (k ∷ [], rise s (λ e. n (sym e)) done)

module _ (P Q : Word → Type 0) (rules : List Rule) where
  wider : {k p q : ℕ} {added more : List Word} {new : Word} → Within P added Q more → Step rules P k p q added new → Step rules Q k p q more new
  wider h s = record { leads = s.leads; old = s.old; found = h s.old s.found; makes = s.makes }

  grow : {p g : ℕ} {added more after : List Word} {c : Climb} → Run rules P p added c g after → Within P added Q more → Reaches rules Q p more c g
  grow {more = more} done h = (more, done)
  grow (stay s r) h = let t = grow r (λ w. ⊎_elim inl (λ f. inr (h w f))) in (t.0, stay (wider h s) t.1)
  grow (rise s changes r) h = let t = grow r (λ w. ⊎_elim inl (λ f. inr (h w f))) in (t.0, rise (wider h s) changes t.1)

pub more_words : (P Q : Word → Type 0) → MoreWords P Q
more_words P Q rules p g added more c h r = grow P Q rules r.1 h

same_verdicts : (P Q : Word → Type 0) (rules : List Rule) (p g : ℕ) (added more : List Word) (v : Verdict) →
    Within P added Q more → Within Q more P added → Means rules P p added g v → Means rules Q p more g v
same_verdicts P Q rules p g added more out h i m = λ c r. m c (more_words Q P rules p g more added c i r)
same_verdicts P Q rules p g added more (in_by c) h i m =
    record { holds = more_words P Q rules p g added more c h m.holds; first = λ d r. m.first d (more_words Q P rules p g more added d i r) }
same_verdicts P Q rules p g added more too_heavy h i m = m

pub same_words : (P Q : Word → Type 0) → SameWords P Q
same_words P Q = record {
  climbs = λ rules p g added more c h i. (more_words P Q rules p g added more c h, more_words Q P rules p g more added c i);
  verdicts = λ rules p g added more v h i. (same_verdicts P Q rules p g added more v h i, same_verdicts Q P rules p g more added v i h);
}

pub words_stay : (P : Word → Type 0) → WordsStay P
words_stay P rules p q added more c done w h = h
words_stay P rules p q added more c (stay s r) w h = words_stay P rules p q _ more c r w (inr h)
words_stay P rules p q added more c (rise s n r) w h = words_stay P rules _ q _ more _ r w (inr h)

pub out_stays : (P : Word → Type 0) → OutStays P
out_stays P = record { after_step = λ rules k p q g added new o s. after (step_runs rules P s).1 o; after_run = λ rules p q g added more c o r. after r o }
  where
    after : {rules : List Rule} {p q g : ℕ} {added more : List Word} {c : Climb} → Run rules P p added c q more → Out rules P p added g → Out rules P q more g
    after {rules} {c = c} r o d s = o (c ++ d) (s.0, append rules P r s.1)
