-- Each round finds the heaviest rise, and so the rounds find whether some rise is too heavy.
use Rattle.std.proofs.Common.{◌≡◌, ℕ, zero, suc, ◌+◌, ◌<◌, ◌≤◌, max, Bool, true, false, cond, not, ◌&&◌, eqb, ◌⊎◌, ◌↔◌, List, [], ◌∷◌, length, Some, None, Decides, Option, sym, refl, ap, ◌∙◌, subst, inl, inr, le_of_suc-le-suc, eq-or-lt_of_le, arith}
use native.Mathlib.Decide.{dec_lt}
use Rattle.std.proofs.lemmas.Bool.Decides.{Decides-eqb, Decides-and, Decides-not}
use Rattle.question.specs.Runs.{Rule, Climb, rule}
use Rattle.question.specs.Rises.{Rise, Rise.none, Rise.then, weight, weight_limit, Heavy}
use Rattle.question.specs.Orders.{Order}
use Rattle.question.specs.Rounds.{larger, largest_below, plus, Over, adds, heaviest, Weighs, Most}
use Rattle.question.specs.Weighing.{NeverLong}
use Rattle.question.specs.Theorems.{RoundsFind, HeavyByRounds}
use Rattle.question.proofs.Rises.{rise_short}
use Rattle.question.proofs.Weights.{weight_goes_on}

-- Of the largest number that X holds of.

most_like : (X Y : ℕ → Type 0) (o : Option ℕ) → ((v : ℕ) → X v ↔ Y v) → Most X o → Most Y o
most_like X Y None f h = λ v y. h v ((f v).1 y)
most_like X Y (Some m) f h = ((f m).0 h.0, λ v y. h.1 v ((f v).1 y))

most_either : (X Y : ℕ → Type 0) (a b : Option ℕ) → Most X a → Most Y b → Most (λ v. X v ⊎ Y v) (larger a b)
most_either X Y None None h i = λ v. elim [ inl x ↦ h v x | inr y ↦ i v y ]
most_either X Y None (Some n) h i = (inr i.0, λ v. elim [ inl x ↦ absurd (h v x) | inr y ↦ i.1 v y ])
most_either X Y (Some m) None h i = (inl h.0, λ v. elim [ inl x ↦ h.1 v x | inr y ↦ absurd (i v y) ])
most_either X Y (Some m) (Some n) h i = (which (dec_lt m n), λ v. elim [ inl x ↦ omega (arith, h.1 v x) | inr y ↦ omega (arith, i.1 v y) ])
  where
    which : Dec (m < n) → X (max m n) ⊎ Y (max m n)
    which (yes l) = let e : n ≡ max m n = omega arith in inr (subst Y e i.0)
    which (no l) = let e : m ≡ max m n = omega arith in inl (subst X e h.0)

most_plus : (X : ℕ → Type 0) (d : ℕ) (o : Option ℕ) → Most X o → Most (λ v. (u : ℕ) × X u × (v ≡ d + u)) (plus d o)
most_plus X d None h = λ v t. h t.0 t.1
most_plus X d (Some m) h = ((m, h.0, refl), λ v t. let le = h.1 t.0 t.1 in omega (arith, t.2))

most_if : (X : ℕ → Type 0) (Q : Type 0) (b : Bool) (o : Option ℕ) → Decides b Q → Most X o → Most (λ v. Q × X v) (cond b o None)
most_if X Q true None d h = λ v t. h v t.1
most_if X Q true (Some m) d h = ((d.0 refl, h.0), λ v t. h.1 v t.1)
most_if X Q false o d h = λ v t. let e : false ≡ true = d.1 t.0 in let z : ◌≡◌ {A = ℕ} 0 1 = cc in omega arith

most_below : (X : ℕ → ℕ → Type 0) (f : ℕ → Option ℕ) → ((k : ℕ) → Most (X k) (f k)) → (n : ℕ) → Most (λ v. (k : ℕ) × (k < n) × X k v) (largest_below n f)
most_below X f h zero = λ v t. absurd (omega (arith, t.1))
most_below X f h (suc n) =
    most_like _ _ (largest_below (suc n) f) (λ v. (elim [ inl t ↦ (t.0, omega arith, t.2) | inr x ↦ (n, omega arith, x) ], λ t. last v t.0 t.2 (eq-or-lt_of_le (le_of_suc-le-suc t.1))))
    (most_either _ _ (largest_below n f) (f n) (most_below X f h n) (h n))
  where
    last : (v k : ℕ) → X k v → (k ≡ n) ⊎ (k < n) → ((j : ℕ) × (j < n) × X j v) ⊎ X n v
    last v k x (inl e) = inr (subst (λ j. X j v) e x)
    last v k x (inr l) = inl (k, l, x)

module _ (rules : List Rule) (g : ℕ) where
  no_rules : {p : ℕ} {c : Climb} (v : ℕ) → Rise rules p c g → length c ≡ 0 → weight rules c ≡ v → (p ≡ g) × (v ≡ 0)
  no_rules v none l w = (refl, sym w)
  no_rules v (then a changes r) l w = absurd (omega arith)

  -- A rise of one rule more: its first rule is k.
  abbrev Via : ℕ → ℕ → ℕ → ℕ → Type 0
  Via n p k v = (((rule rules k).from ≡ p) × ((rule rules k).to ≡ p → ⊥)) × ((u : ℕ) × Weighs rules g n (rule rules k).to u × (v ≡ adds rules n k + u))

  first_rule : {p : ℕ} {c : Climb} (n v : ℕ) → Rise rules p c g → length c ≡ suc n → weight rules c ≡ v → (k : ℕ) × (k < length rules) × Via n p k v
  first_rule n v none l w = absurd (omega arith)
  first_rule n v (then {k} {c = c} a changes r) l w =
      let e : length c ≡ n = omega arith in
      (k, a.listed, ((a.from, λ e. changes (sym e ∙ a.to)), (weight rules c, (c, rw a.to r, e, refl), cc (weight_goes_on rules k c))))

  one_rule_more : (n p k v : ℕ) → k < length rules → Via n p k v → Weighs rules g (suc n) p v
  one_rule_more n p k v h t =
      let (c, r, l, w) = t.1.1 in
      (k ∷ c, then (record { listed = h; from = t.0.0; to = refl }) (λ e. t.0.1 (sym e)) r, ap suc l, cc (weight_goes_on rules k c))

pub rounds_find : RoundsFind
rounds_find rules g zero p =
    most_like _ _ (heaviest rules g zero p) (λ v. (λ t. ([], subst (λ q. Rise rules p [] q) t.0 none, refl, sym t.1), λ t. no_rules rules g v t.1 t.2 t.3))
    (most_if (λ v. v ≡ 0) (p ≡ g) (eqb p g) (Some 0) (Decides-eqb p g) (refl, λ v e. omega arith))
rounds_find rules g (suc n) p =
    most_like _ _ (heaviest rules g (suc n) p) (λ v. (λ t. one_rule_more rules g n p t.0 v t.1 t.2, λ t. first_rule rules g n v t.1 t.2 t.3))
    (most_below (Via rules g n p) _ (λ k. most_if _ _ (eqb (rule rules k).from p && not (eqb (rule rules k).to p)) _
    (Decides-and _ _ (Decides-eqb (rule rules k).from p) (Decides-not _ (Decides-eqb (rule rules k).to p)))
    (most_plus (Weighs rules g n (rule rules k).to) (adds rules n k) (heaviest rules g n (rule rules k).to) (rounds_find rules g n (rule rules k).to))) (length rules))

-- A number above the limit, of those that X holds of.
pub over : (X : ℕ → Type 0) (o : Option ℕ) → Most X o → Over o ↔ ((v : ℕ) × X v × (weight_limit < v))
over X None m = (λ h. absurd h, λ t. m t.0 t.1)
over X (Some w) m = (λ h. (w, m.0, h), λ t. omega (arith, m.1 t.0 t.1, t.2))

pub rounds_decide : (rules : List Rule) → NeverLong rules → (p g : ℕ) → (Heavy rules p g ↔ ((n : ℕ) × (n ≤ length rules) × Over (heaviest rules g n p)))
rounds_decide rules short p g = (
  λ t. let (c, r, h) = t in (length c, short p g c r, (over _ _ (rounds_find rules g (length c) p)).1 (weight rules c, (c, r, refl, refl), h)),
  λ t. let (v, (c, r, l, e), h) = (over _ _ (rounds_find rules g t.0 p)).0 t.2 in (c, r, subst (λ (m : ℕ). weight_limit < m) (sym e) h),
)

pub heavy_by_rounds : (size : ℕ) (above : ℕ → ℕ → Type 0) → Order size above → HeavyByRounds size above
heavy_by_rounds size above order rules never = rounds_decide rules (rise_short size above order rules never)
