-- From a run to suppliers: what each rule of its climb took its word from.
use Rattle.std.proofs.Common.{◌≡◌, ℕ, zero, suc, ◌<◌, ◌≤◌, List, [], ◌∷◌, length, get_or, drop, sym, ap, ◌∙◌, subst, inl, inr, arith, length-drop}
use native.Mathlib.Decide.{dec_le, dec_lt}
use Rattle.question.specs.Runs.{Word, Rule, Makes, Pool, Climb, rule, Leads, Step, Run, Run.done, Run.stay, Run.rise}
use Rattle.question.specs.Rises.{Rise, Rise.none, Rise.then, stage}
use Rattle.question.specs.Supply.{Fits, Fits.stay as fit_stay, Fits.wait, Fits.apply}
use Rattle.question.proofs.Runs.{climb_rises}

-- What stands at i and after it, of a list that is k ∷ d from i on.
pub drop_head : (c : Climb) (i k : ℕ) (d : Climb) → drop i c ≡ k ∷ d → (i < length c) × (get_or c i 0 ≡ k) × (drop (suc i) c ≡ d)
drop_head [] zero k d e = let z : ◌≡◌ {A = ℕ} 0 1 = cc in absurd (omega arith)
drop_head [] (suc i) k d e = let z : ◌≡◌ {A = ℕ} 0 1 = cc in absurd (omega arith)
drop_head (a ∷ c) zero k d e = (omega arith, cc, cc)
drop_head (a ∷ c) (suc i) k d e = let h = drop_head c i k d e in (omega (arith, h.0), h.1, h.2)

module _ (rules : List Rule) (P : Word → Type 0) (c : Climb) where
  abbrev n : ℕ
  n = length c

  -- With the climb from i on still to come, a run is at stage i.
  pub at_stage : {p g : ℕ} {d : Climb} → Rise rules p d g → (i : ℕ) → drop i c ≡ d → i < n → p ≡ stage rules c i
  at_stage none i e less = absurd (omega (arith, length-drop i c, ap length e))
  at_stage (then {k} {p} leads changes r) i e less = sym leads.from ∙ ap (λ k. (rule rules k).from) (sym (drop_head c i k _ e).1)

  -- Each rule from i on whose supplier is no rule from i on has a word in the pool.
  abbrev pub Ready : (ℕ → ℕ) → ℕ → List Word → Type 0
  Ready s i added = (j : ℕ) → i ≤ j → j < n → s j ≤ i → (w : Word) × Pool P added w × Fits rules c s i j w

  -- Fits asks only for suppliers from i on.
  pub fits_less : (s t : ℕ → ℕ) {i j : ℕ} {w : Word} → Fits rules c t i j w → ((k m : ℕ) → i ≤ m → s k ≡ suc m → t k ≡ suc m) → Fits rules c s i j w
  fits_less s t (fit_stay leads makes f) h = fit_stay leads makes (fits_less s t f h)
  fits_less s t (wait less f) h = wait less (fits_less s t f (λ k m le. h k m (omega arith)))
  fits_less s t (apply {j} makes f) h = apply makes (λ k later less e. fits_less s t (f k later less (h k j (omega arith) e)) (λ k m le. h k m (omega arith)))

  -- The supplier m of rule k, once rule i has added the word `new`: it is rule i if the word that fits is `new`.
  record Choice (t : ℕ → ℕ) (i : ℕ) (added : List Word) (new : Word) (k m : ℕ) : Type 0 where
    pub earlier : m ≤ k
    pub later : (e : ℕ) → suc i ≤ e → m ≡ suc e → t k ≡ suc e
    pub served : m ≡ suc i → i < k → k < n → Fits rules c t (suc i) k new
    pub other : m ≤ i → i < k → k < n → (w : Word) × Pool P added w × Fits rules c t (suc i) k w

  choose : (t : ℕ → ℕ) (i : ℕ) (added : List Word) (new : Word) → ((k : ℕ) → t k ≤ k) → Ready t (suc i) (new ∷ added) → (k : ℕ) → (m : ℕ) × Choice t i added new k m
  choose t i added new early ready k = cases (dec_lt i k) (dec_lt k n) (dec_le (t k) (suc i))
    where
      chosen : i < k → (w : Word) × Pool P (new ∷ added) w × Fits rules c t (suc i) k w → (m : ℕ) × Choice t i added new k m
      chosen a (w, inl e, f) = (suc i, record { earlier = a; later = λ e l q. absurd (omega arith); served = λ q a b. subst (Fits rules c t (suc i) k) e f; other = λ l. absurd (omega arith) })
      chosen a (w, inr q, f) = (0, record { earlier = omega arith; later = λ e l q. absurd (omega arith); served = λ q. absurd (omega arith); other = λ l a b. (w, q, f) })

      same : (t k ≤ suc i → i < k → k < n → ⊥) → (m : ℕ) × Choice t i added new k m
      same no_way = (t k, record { earlier = early k; later = λ e l q. q; served = λ q a b. absurd (no_way (omega arith) a b); other = λ q a b. absurd (no_way (omega arith) a b) })

      cases : Dec (i < k) → Dec (k < n) → Dec (t k ≤ suc i) → (m : ℕ) × Choice t i added new k m
      cases (yes a) (yes b) (yes l) = chosen a (ready k a b l)
      cases (yes a) (yes b) (no l) = same (λ x y z. l x)
      cases (yes a) (no b) l = same (λ x y z. b z)
      cases (no a) b l = same (λ x y z. a y)

  stay_ready : {k p : ℕ} {added : List Word} {new : Word} → Step rules P k p p added new → (s : ℕ → ℕ) (i : ℕ) → (i < n → p ≡ stage rules c i) → Ready s i (new ∷ added) → Ready s i added
  stay_ready {k} {added = added} {new = new} a s i at ready j le less op = word (ready j le less op)
    where
      word : (w : Word) × Pool P (new ∷ added) w × Fits rules c s i j w → (w : Word) × Pool P added w × Fits rules c s i j w
      word (w, inl e, f) = (a.old, a.found, fit_stay (subst (λ q. Leads rules k q q) (at (omega arith)) a.leads) a.makes (subst (Fits rules c s i j) e f))
      word (w, inr q, f) = (w, q, f)

  -- Suppliers of the rules from i on, each an earlier rule or the pool.
  pub record Plan (i : ℕ) (added : List Word) : Type 0 where
    pub supplier : ℕ → ℕ
    pub earlier : (j : ℕ) → supplier j ≤ j
    pub ready : Ready supplier i added

  rise_ready : {k p q : ℕ} {added : List Word} {new : Word} → Step rules P k p q added new → (i : ℕ) → get_or c i 0 ≡ k → Plan (suc i) (new ∷ added) → Plan i added
  rise_ready {added = added} {new = new} a i e plan = record { supplier = s; earlier = λ j. (choice j).earlier; ready = λ j le less op. word j le less op (dec_lt i j) }
    where
      t : ℕ → ℕ
      t = plan.supplier

      s : ℕ → ℕ
      s j = (choose t i added new plan.earlier plan.ready j).0

      choice : (j : ℕ) → Choice t i added new j (s j)
      choice j = (choose t i added new plan.earlier plan.ready j).1

      now_less : {j : ℕ} {w : Word} → Fits rules c t (suc i) j w → Fits rules c s (suc i) j w
      now_less f = fits_less s t f (λ k. (choice k).later)

      word : (j : ℕ) → i ≤ j → j < n → s j ≤ i → Dec (i < j) → (w : Word) × Pool P added w × Fits rules c s i j w
      word j le less op (yes l) = let o = (choice j).other op l less in (o.0, o.1, wait l (now_less o.2))
      word j le less op (no l) =
          let makes = subst (λ k. Makes (rule rules k) a.old new) (sym e) a.makes in
          let fits = apply makes (λ k later kn q. now_less ((choice k).served q later kn)) in
          let i_is_j : i ≡ j = omega arith in
          (a.old, a.found, subst (λ m. Fits rules c s i m a.old) i_is_j fits)

  pub plan : {p g : ℕ} {added more : List Word} {d : Climb} → Run rules P p added d g more → (i : ℕ) → drop i c ≡ d → Plan i added
  plan done i e = record { supplier = λ j. 0; earlier = λ j. omega arith; ready = λ j le less. absurd (omega (arith, length-drop i c, ap length e)) }
  plan (stay a r) i e = let t = plan r i e in record { supplier = t.supplier; earlier = t.earlier; ready = stay_ready a t.supplier i (at_stage (climb_rises rules P r) i e) t.ready }
  plan (rise {k = k} {c = d} a changes r) i e = let h = drop_head c i k d e in rise_ready a i h.1 (plan r (suc i) h.2)
