-- A call has one outcome.
use Rattle.std.proofs.Common.{◌≡◌, ℕ, List, [], ◌∷◌, map, sym, refl, ap, ◌∙◌, subst, inl, inr, arith}
use Rattle.session.specs.declared.fault.Fault.{Fault}
use Rattle.question.specs.Runs.{Word, Reaches}
use Rattle.session.specs.Checks.{Check, ◌unless◌, Passed, RefusedBy}
use Rattle.session.specs.Calls.{Call, admit, hear, fire, ask, Answer, refused, in_reach}
use Rattle.session.specs.Ledger.{Ledger, checks, Does, Does.admits, Does.hears_known, Does.hears_new, Does.fires_known, Does.fires_new, Does.denies, Does.tells, Serves, Serves.refuses, Serves.accepts}
use Rattle.session.specs.Law.{Entry, Follows}
use Rattle.session.specs.Consequences.{OneOutcome, SomeOutcome}
use Rattle.question.proofs.Climbs.{one_earliest}
use Rattle.session.proofs.Earliest.{some_earliest}

-- No call both passes and is refused.
not_both : (cs : List Check) (f : Fault) → RefusedBy f cs → Passed cs → ⊥
not_both [] f r p = r
not_both ((_ unless _) ∷ rest) f (inl r) p = r.0 p.0
not_both ((_ unless _) ∷ rest) f (inr r) p = not_both rest f r.1 p.1

-- No call is refused in two ways.
one_fault : (cs : List Check) (f g : Fault) → RefusedBy f cs → RefusedBy g cs → f ≡ g
one_fault [] f g r s = absurd r
one_fault ((_ unless _) ∷ rest) f g (inl r) (inl s) = r.1 ∙ sym s.1
one_fault ((_ unless _) ∷ rest) f g (inl r) (inr s) = absurd (r.0 s.0)
one_fault ((_ unless _) ∷ rest) f g (inr r) (inl s) = absurd (s.0 r.0)
one_fault ((_ unless _) ∷ rest) f g (inr r) (inr s) = one_fault rest f g r.1 s.1

-- No call neither passes nor is refused.
not_neither : (cs : List Check) → (Passed cs → ⊥) → ((f : Fault) → RefusedBy f cs → ⊥) → ⊥
not_neither [] p r = p tt
not_neither ((f unless holds) ∷ rest) p r = r f (inl (λ h. not_neither rest (λ q. p (h, q)) (λ g s. r g (inr (h, s))), refl))

module _ (size : ℕ) (above : ℕ → ℕ → Type 0) (W : Word → Type 0) where
  -- What a call does is one thing.
  does_one : (L : Ledger) (call : Call) (a b : Answer) (M N : Ledger) → Does W L call a M → Does W L call b N → (a ≡ b) × (M ≡ N)
  does_one L call a b M N admits admits = (refl, refl)
  does_one L call a b M N (hears_known i) (hears_known j) = (refl, refl)
  does_one L call a b M N (hears_known i) (hears_new j) = absurd (j i)
  does_one L call a b M N (hears_new i) (hears_known j) = absurd (i j)
  does_one L call a b M N (hears_new i) (hears_new j) = (refl, refl)
  does_one L call a b M N (fires_known i) (fires_known j) = (refl, refl)
  does_one L call a b M N (fires_known i) (fires_new j) = absurd (j i)
  does_one L call a b M N (fires_new i) (fires_known j) = absurd (i j)
  does_one L call a b M N (fires_new i) (fires_new j) = (refl, refl)
  does_one L call a b M N (denies o) (denies u) = (refl, refl)
  does_one L call a b M N (denies o) (tells {c = c} e) = absurd (o c e.holds)
  does_one L call a b M N (tells {c = c} e) (denies o) = absurd (o c e.holds)
  does_one L call a b M N (tells {goal = goal} {c = c} e) (tells {c = d} u) =
      (ap in_reach (one_earliest (λ k. Reaches L.rules W L.stage L.heard k goal) c d e u), refl)

  one_call : (L : Ledger) (call : Call) (a b : Answer) (M N : Ledger) →
      Serves size above W L call a M → Serves size above W L call b N → (a ≡ b) × (M ≡ N)
  one_call L call a b M N (refuses {f = f} r) (refuses {f = g} s) = (ap refused (one_fault (checks size above W L call) f g r s), refl)
  one_call L call a b M N (refuses {f = f} r) (accepts p d) = absurd (not_both (checks size above W L call) f r p)
  one_call L call a b M N (accepts p d) (refuses {f = f} r) = absurd (not_both (checks size above W L call) f r p)
  one_call L call a b M N (accepts p d) (accepts q e) = does_one L call a b M N d e

  one_history : (L : Ledger) (es fs : List Entry) →
      Follows size above W L es → Follows size above W L fs → map (λ e. e.call) es ≡ map (λ e. e.call) fs → es ≡ fs
  one_history L [] [] f g same = refl
  one_history L [] (e ∷ es) f g same = let z : ◌≡◌ {A = ℕ} 0 1 = cc in absurd (omega arith)
  one_history L (d ∷ ds) [] f g same = let z : ◌≡◌ {A = ℕ} 0 1 = cc in absurd (omega arith)
  one_history L (d ∷ ds) (e ∷ es) f g same =
      let calls : d.call ≡ e.call = cc in
      let rest : map (λ x. x.call) ds ≡ map (λ x. x.call) es = cc in
      let one = one_call L e.call d.answer e.answer d.after e.after (subst (λ k. Serves size above W L k d.answer d.after) calls f.0) g.0 in
      let answers = one.0 in
      let ledgers = one.1 in
      let tails = one_history e.after ds es (subst (λ M. Follows size above W M ds) ledgers f.1) g.1 rest in
      same_cons calls answers ledgers tails
    where
      same_cons : d.call ≡ e.call → d.answer ≡ e.answer → d.after ≡ e.after → ds ≡ es → d ∷ ds ≡ e ∷ es
      same_cons p q r s = λ i. record { call = p i; answer = q i; after = r i } ∷ s i

  pub one_outcome : OneOutcome size above W
  one_outcome = record { call = one_call; history = one_history }

  -- No call that passes its checks is without an outcome.
  does_some : (L : Ledger) (call : Call) → ((a : Answer) (M : Ledger) → Does W L call a M → ⊥) → ⊥
  does_some L (admit r) none = none _ _ admits
  does_some L (hear w) none = none _ _ (hears_new (λ known. none _ _ (hears_known known)))
  does_some L (fire k w) none = none _ _ (fires_new (λ known. none _ _ (fires_known known)))
  does_some L (ask goal lent) none =
      none _ _ (denies (some_earliest (λ k. Reaches L.rules W L.stage L.heard k goal) (λ c e. none _ _ (tells e))))

  pub some_outcome : SomeOutcome size above W
  some_outcome L call none =
      not_neither (checks size above W L call) (λ p. does_some L call (λ a M d. none a M (accepts p d))) (λ f r. none (refused f) L (refuses r))
