-- From suppliers to a run: the staying steps that make each word fit, and then the next rule of the climb.
use Rattle.std.proofs.Common.{◌≡◌, ℕ, zero, suc, ◌+◌, ◌-◌, ◌<◌, ◌≤◌, List, ◌∷◌, length, drop, sym, refl, subst, inl, inr, arith}
use native.Mathlib.Decide.{dec_le, dec_lt}
use Rattle.question.specs.Runs.{Word, Rule, Makes, Pool, Within, Climb, rule, Leads, Run.done, Run.stay, Run.rise, Reaches}
use Rattle.question.specs.Rises.{Rise, Rise.none, Rise.then, changing, stage}
use Rattle.question.specs.Supply.{Fits, Fits.stay as fit_stay, Fits.wait, Fits.apply}
use Rattle.question.proofs.Planning.{drop_head, at_stage, Ready}

below_next : (X : ℕ → Type 0) (j : ℕ) → ((l : ℕ) → l < j → X l) → X j → (l : ℕ) → l < suc j → X l
below_next X j h x l less = cases (dec_lt l j)
  where
    cases : Dec (l < j) → X l
    cases (yes q) = h l q
    cases (no q) = let e : j ≡ l = omega arith in subst X e x

module _ (rules : List Rule) (P : Word → Type 0) (c : Climb) (s : ℕ → ℕ) where
  -- The word fits rule j with no staying rule of stage i first.
  record Now (i j : ℕ) (w : Word) : Type 0 where
    pub applied : i ≡ j → (new : Word) × Makes (changing rules c i) w new × ((k : ℕ) → i < k → k < length c → s k ≡ suc i → Fits rules c s (suc i) k new)
    pub waits : i < j → Fits rules c s (suc i) j w

  -- The pool has a word that fits rule j now.
  abbrev Made : ℕ → ℕ → List Word → Type 0
  Made i j added = (w : Word) × Pool P added w × Now i j w

  -- Staying steps make, out of a word that fits, one that fits now.
  make : {i j : ℕ} {v : Word} → Fits rules c s i j v → (p g : ℕ) (d : Climb) (added : List Word) → p ≡ stage rules c i → Pool P added v →
      ((more : List Word) → Within P added P more → Made i j more → Reaches rules P p more d g) → Reaches rules P p added d g
  make (fit_stay {k = k} {v = v} {w = w} leads makes f) p g d added at found next =
      let r = make f p g d (w ∷ added) at (inl refl) (λ more h. next more (λ u q. h u (inr q))) in
      (r.0, stay (record { leads = subst (λ q. Leads rules k q q) (sym at) leads; old = v; found = found; makes = makes }) r.1)
  make (wait {w = w} less f) p g d added at found next = next added (λ u q. q) (w, found, record { applied = λ e. absurd (omega arith); waits = λ l. f })
  make (apply {v = v} {w = w} makes f) p g d added at found next = next added (λ u q. q) (v, found, record { applied = λ e. (w, makes, f); waits = λ l. absurd (omega arith) })

  -- Each rule from i on and below j that is open, whose supplier is no rule from i on, has a word that fits now.
  abbrev AllMade : ℕ → ℕ → List Word → Type 0
  AllMade i j added = (l : ℕ) → l < j → i ≤ l → s l ≤ i → Made i l added

  module _ (i p g : ℕ) (d : Climb) (at : p ≡ stage rules c i) where
    -- The rules from j on, m of them, have a word that fits, and those before j one that fits now.
    make_all : (m j : ℕ) → j + m ≡ length c → i ≤ j → (added : List Word) → ((l : ℕ) → j ≤ l → l < length c → s l ≤ i → (w : Word) × Pool P added w × Fits rules c s i l w) →
        AllMade i j added → ((more : List Word) → AllMade i (length c) more → Reaches rules P p more d g) → Reaches rules P p added d g
    make_all zero j e le added todo ready next = next added (λ l less. ready l (omega arith))
    make_all (suc m) j e le added todo ready next =
        step (dec_le (s j) i)
        (λ shut. make_all m (suc j) (omega arith) (omega arith) added (λ l low. todo l (omega arith)) (below_next _ j ready (λ low op. absurd (shut op))) next)
        (λ more h w. make_all m (suc j) (omega arith) (omega arith) more
        (λ l low less op. let t = todo l (omega arith) less op in (t.0, h t.0 t.1, t.2))
        (below_next _ j (λ l less low op. let t = ready l less low op in (t.0, h t.0 t.1, t.2)) (λ low op. w)) next)
      where
        step : Dec (s j ≤ i) → (¬ (s j ≤ i) → Reaches rules P p added d g) →
            ((more : List Word) → Within P added P more → Made i j more → Reaches rules P p more d g) → Reaches rules P p added d g
        step (yes op) skip go = let t = todo j (omega arith) (omega arith) op in make t.2 p g d added at t.1 go
        step (no shut) skip go = skip shut

  -- Once rule i has made `new`, the rules after it are ready.
  served : (i : ℕ) (more : List Word) → AllMade i (length c) more → (new : Word) → ((k : ℕ) → i < k → k < length c → s k ≡ suc i → Fits rules c s (suc i) k new) →
      Ready rules P c s (suc i) (new ∷ more)
  served i more now new f j le less op = cases (dec_le (s j) i)
    where
      cases : Dec (s j ≤ i) → (w : Word) × Pool P (new ∷ more) w × Fits rules c s (suc i) j w
      cases (yes l) = let t = now j less (omega arith) l in (t.0, inr t.1, t.2.waits le)
      cases (no l) = (new, inl refl, f j le less (omega arith))

  pub run : {p g : ℕ} {d : Climb} → Rise rules p d g → ((j : ℕ) → s j ≤ j) → (i : ℕ) → drop i c ≡ d → (added : List Word) → Ready rules P c s i added → Reaches rules P p added d g
  run none early i e added ready = (added, done)
  run (then {k} {p} {q} {g} {c = d} leads changes r) early i e added ready =
      let h = drop_head c i k d e in
      make_all i p g (k ∷ d) (at_stage rules P c (then leads changes r) i e h.0) (length c - i) i (omega (arith, h.0)) (omega arith) added ready (λ l less low. absurd (omega arith)) (λ more now.
      let a = now i h.0 (omega arith) (early i) in
      let b = a.2.applied refl in
      let makes = subst (λ k. Makes (rule rules k) a.0 b.0) h.1 b.1 in
      let after = run r early (suc i) h.2 (b.0 ∷ more) (served i more now b.0 b.2) in
      (after.0, rise (record { leads = leads; old = a.0; found = a.1; makes = makes }) changes after.1))
