-- The rises by a few rules, listed by computation, and what a verdict is where there is only one.
use Rattle.std.proofs.Common.{◌≡◌, ℕ, zero, suc, ◌<◌, ◌≤◌, Bool, true, cond, not, ◌&&◌, eqb, ltb, List, [], ◌∷◌, map, length, Decides, filter, sym, refl, ap, ◌∙◌, subst, inl, inr, arith}
use Rattle.std.specs.List.{flat_map}
use Rattle.std.proofs.ByRecursion.{All-get_or, Decides-by_and}
use Rattle.std.proofs.lemmas.Bool.Decides.{Decides-eqb, Decides-ltb, Decides-and, Decides-not, Decides-like}
use Rattle.question.specs.Lists.{In, In.here, In.there, numbers}
use Rattle.question.specs.Runs.{Word, Rule, Climb, rule, no_rule, Reaches}
use Rattle.question.specs.Rises.{Rise, Rise.none, Rise.then, weight, weight_limit, Heavy}
use Rattle.question.specs.Orders.{Order, Up, NeverFalls}
use Rattle.question.specs.Verdicts.{Lower, Earlier, Verdict.out, Verdict.in_by, Verdict.too_heavy}
use Rattle.question.specs.Designs.{Asked}
use Rattle.question.proofs.Lists.{in_numbers, in_kept_by, map_in, in_joined}
use Rattle.question.proofs.Runs.{climb_rises}
use Rattle.question.proofs.Rises.{rise_short}

-- Whether the rule leads from p to another stage.
abbrev changes_at : ℕ → Rule → Bool
changes_at p r = eqb r.from p && not (eqb r.to p)

changes_decides : (p : ℕ) (r : Rule) → Decides (changes_at p r) ((r.from ≡ p) × (r.to ≡ p → ⊥))
changes_decides p r = Decides-and _ _ (Decides-eqb r.from p) (Decides-not _ (Decides-eqb r.to p))

module _ (rules : List Rule) (g : ℕ) where
  -- The rises of n rules from p to g.
  abbrev rises_of : ℕ → ℕ → List Climb
  rises_of zero p = cond (eqb p g) ([] ∷ []) []
  rises_of (suc n) p = flat_map (λ k. map (λ c. k ∷ c) (rises_of n (rule rules k).to)) (filter (λ k. changes_at p (rule rules k)) (numbers 0 (length rules)))

  -- The rises of at most as many rules as there are.
  abbrev pub rises : ℕ → List Climb
  rises p = flat_map (λ n. rises_of n p) (numbers 0 (suc (length rules)))

  rise_of : {p : ℕ} {c : Climb} → Rise rules p c g → In c (rises_of (length c) p)
  rise_of none = rw ((Decides-eqb g g).1 refl) (here refl)
  rise_of (then {k} {p} {c = c} a changes r) =
      let first = in_numbers k 0 (length rules) (omega arith) (omega (arith, a.listed)) in
      let test = (changes_decides p (rule rules k)).1 (a.from, λ e. changes (sym e ∙ a.to)) in
      in_joined (λ k. map (λ c. k ∷ c) (rises_of (length c) (rule rules k).to)) (in_kept_by (λ k. changes_at p (rule rules k)) first test) (map_in (λ c. k ∷ c) (rw a.to (rise_of r)))

-- Whether the rule leads upward on a ladder of five stages.
abbrev upward : Rule → Bool
upward r = ltb r.from 5 && (ltb r.to 5 && ltb r.from (suc r.to))

abbrev pub all_upward : List Rule → Bool
all_upward [] = true
all_upward (r ∷ rules) = upward r && all_upward rules

abbrev AtOrAbove : ℕ → ℕ → Type 0
AtOrAbove b a = a ≤ b

upward_decides : (r : Rule) → Decides (upward r) (Up 5 AtOrAbove r.from r.to)
upward_decides r =
    Decides-like _ (λ t. record { from = t.0; to = t.1.0; stands = omega (arith, t.1.1) }) (λ u. (u.from, (u.to, omega (arith, u.stands))))
    (Decides-and _ _ (Decides-ltb r.from 5) (Decides-and _ _ (Decides-ltb r.to 5) (Decides-ltb r.from (suc r.to))))

five : Order 5 AtOrAbove
five = record { reflexive = λ a h. omega arith; antisymmetric = λ a b h i j k. omega arith; transitive = λ a b c h i j k l. omega arith }

not_earlier : (c : Climb) → Earlier c c → ⊥
not_earlier c (inl h) = omega arith
not_earlier c (inr (e, l)) = not_lower c l
  where
    not_lower : (d : Climb) → Lower d d → ⊥
    not_lower [] l = l
    not_lower (k ∷ d) (inl h) = omega arith
    not_lower (k ∷ d) (inr (e, l)) = not_lower d l

-- Rules that lead upward, with one rise from stage 0 to g.
module _ (rules : List Rule) (g : ℕ) (c : Climb) (up : all_upward rules ≡ true) (one : rises rules g 0 ≡ c ∷ []) where
  never : NeverFalls 5 AtOrAbove rules
  never k h = All-get_or _ rules k no_rule h ((Decides-by_and upward _ all_upward upward_decides refl (λ r rest. refl) rules).0 up)

  only : (d : Climb) → Rise rules 0 d g → d ≡ c
  only d r = by (subst (In d) one (in_joined (λ n. rises_of rules g n 0) (in_numbers (length d) 0 (suc (length rules)) (omega arith) (omega (arith, rise_short 5 AtOrAbove five rules never 0 g d r))) (rise_of rules g r)))
    where
      by : In d (c ∷ []) → d ≡ c
      by (here e) = e
      by (there i) = elim i [ ]

  light : weight rules c ≤ weight_limit → Heavy rules 0 g → ⊥
  light w (d, r, h) = let e = ap (weight rules) (only d r) in omega (arith, w, h, e)

  pub asked_in : (P : Word → Type 0) → weight rules c ≤ weight_limit → Reaches rules P 0 [] c g → Asked rules P g (in_by c)
  asked_in P w r = record {
    never_falls = never;
    verdict = record { holds = r; first = λ d s h. not_earlier c (subst (λ e. Earlier e c) (only d (climb_rises rules P s.1)) h) };
    light = λ n. light w;
  }

  pub asked_out : (P : Word → Type 0) → weight rules c ≤ weight_limit → (Reaches rules P 0 [] c g → ⊥) → Asked rules P g out
  asked_out P w n = record {
    never_falls = never;
    verdict = λ d s. n (subst (λ e. Reaches rules P 0 [] e g) (only d (climb_rises rules P s.1)) s);
    light = λ m. light w;
  }

  pub asked_heavy : (P : Word → Type 0) → weight_limit < weight rules c → Rise rules 0 c g → Asked rules P g too_heavy
  asked_heavy P w r = record { never_falls = never; verdict = (c, r, w); light = λ n. absurd (n refl) }
