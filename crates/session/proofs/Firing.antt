-- A fire is a step of a run.
use Rattle.std.proofs.Common.{◌≡◌, ℕ, ◌≤◌, ◌↔◌, List, [], ◌∷◌, ◌++◌, length, sym, refl, ◌∙◌, subst, subst₂, inl, inr, ⊎_elim}
use Rattle.question.specs.Runs.{Word, Pool, rule}
use Rattle.session.specs.Limits.{word_limit}
use Rattle.session.specs.Checks.{Passed}
use Rattle.session.specs.Calls.{fire, stands_at}
use Rattle.session.specs.Ledger.{Ledger, checks, made_by, at_stage, with_word, InPool, HasPlace, Does.fires_known, Does.fires_new, Serves, Serves.accepts}
use Rattle.session.specs.Consequences.{Steps, WithinLimits, Stepped, FireIsStep}
use Rattle.session.proofs.Rewriting.{result_is}

module _ (W : Word → Type 0) where
  -- A word that is added last is in the pool as one that is added first.
  last_in : (added : List Word) (w v : Word) → Pool W (added ++ w ∷ []) v ↔ Pool W (w ∷ added) v
  last_in added w v = (out_of added, into added)
    where
      out_of : (ws : List Word) → Pool W (ws ++ w ∷ []) v → Pool W (w ∷ ws) v
      out_of [] h = h
      out_of (u ∷ ws) (inl e) = inr (inl e)
      out_of (u ∷ ws) (inr h) = ⊎_elim inl (λ i. inr (inr i)) (out_of ws h)

      into : (ws : List Word) → Pool W (w ∷ ws) v → Pool W (ws ++ w ∷ []) v
      into [] h = h
      into (u ∷ ws) (inl e) = inr (into ws (inl e))
      into (u ∷ ws) (inr (inl e)) = inl e
      into (u ∷ ws) (inr (inr h)) = inr (into ws (inr h))

  module _ (L : Ledger) (q : ℕ) (made : Word) where
    stepped_known : InPool W L made → Stepped W L q made (at_stage q L)
    stepped_known h = record {
      stage = refl;
      rules = refl;
      pool = λ v. (inr, ⊎_elim (λ e. subst (InPool W L) (sym e) h) (λ i. i));
    }

    stepped_new : Stepped W L q made (at_stage q (with_word made L))
    stepped_new = record { stage = refl; rules = refl; pool = last_in L.heard made }

module _ (size : ℕ) (above : ℕ → ℕ → Type 0) (W : Word → Type 0) (L : Ledger) (k : ℕ) (w : Word) where
  -- The word that the rule makes.
  abbrev made_of : Word
  made_of = made_by (rule L.rules k) w

  -- What the checks of a fire say.
  passed_steps : Passed (checks size above W L (fire k w)) → Steps W L k w (rule L.rules k).to made_of
  passed_steps (short, (symbols, (listed, (from, (found, (begins, _)))))) = record {
    step = record {
      leads = record { listed = listed; from = from; to = refl };
      old = w;
      found = found;
      makes = record { rest = begins.0; before = begins.1; after = sym (result_is (rule L.rules k) w begins.0 begins.1) };
    };
    on = refl;
  }

  passed_within : Passed (checks size above W L (fire k w)) → WithinLimits W L w made_of
  passed_within (short, (symbols, (_, (_, (_, (_, (made_short, (place, _)))))))) =
      record { short = short; symbols = symbols; made_short = made_short; place = place }

  fire_steps : (q : ℕ) (M : Ledger) → Serves size above W L (fire k w) (stands_at q) M →
      (made : Word) × Steps W L k w q made × WithinLimits W L w made × Stepped W L q made M
  fire_steps q M (accepts p (fires_known known)) =
      (made_of, passed_steps p, passed_within p, stepped_known W L q made_of known)
  fire_steps q M (accepts p (fires_new new)) =
      (made_of, passed_steps p, passed_within p, stepped_new W L q made_of)

  module _ (q : ℕ) (made : Word) (s : Steps W L k w q made) (limits : WithinLimits W L w made) where
    begins : w ≡ (rule L.rules k).left ++ s.step.makes.rest
    begins = sym s.on ∙ s.step.makes.before

    is_made : made_of ≡ made
    is_made = sym (result_is (rule L.rules k) w s.step.makes.rest begins) ∙ sym s.step.makes.after

    passes : Passed (checks size above W L (fire k w))
    passes =
        let found = subst (InPool W L) s.on s.step.found in
        let made_short = subst (λ v. length v ≤ word_limit) (sym is_made) limits.made_short in
        let place = subst (HasPlace W L) (sym is_made) limits.place in
        let leads = s.step.leads in
        (limits.short, (limits.symbols, (leads.listed, (leads.from, (found, ((s.step.makes.rest, begins), (made_short, (place, tt))))))))

    step_fires : Dec (InPool W L made) → (M : Ledger) × Serves size above W L (fire k w) (stands_at q) M × Stepped W L q made M
    step_fires (yes known) =
        let served = accepts passes (fires_known (subst (InPool W L) (sym is_made) known)) in
        let at_q = subst (λ t. Serves size above W L (fire k w) (stands_at t) (at_stage t L)) s.step.leads.to served in
        (at_stage q L, at_q, stepped_known W L q made known)
    step_fires (no new) =
        let served = accepts passes (fires_new (λ h. new (subst (InPool W L) is_made h))) in
        let at_q = subst₂ (λ t v. Serves size above W L (fire k w) (stands_at t) (at_stage t (with_word v L))) s.step.leads.to is_made served in
        (at_stage q (with_word made L), at_q, stepped_new W L q made)

pub fire_is_step : (size : ℕ) (above : ℕ → ℕ → Type 0) (W : Word → Type 0) → FireIsStep size above W
fire_is_step size above W = record { fire_steps = fire_steps size above W; step_fires = step_fires size above W }
