-- Weighing with capped weights, rule by rule and round by round.
use Rattle.std.proofs.Common.{◌≡◌, ℕ, zero, suc, ◌+◌, ◌<◌, Bool, true, false, cond, not, ◌&&◌, eqb, List, length, get_or, set, replicate, Some, None, Option, sym, refl, ap, ◌∙◌, subst, ap₂, add-one, arith, length-set, get_or-set_other, get_or-set_same}
use native.Mathlib.Decide.{ℕ_discrete}
use lib.ListN.{get_or-replicate}
use Rattle.std.proofs.lemmas.Bool.Decides.{nat_tests}
use Rattle.std.specs.Option.{option_cmp}
use Rattle.std.specs.Ordering.{ord_max, nat_cmp}
use Rattle.question.specs.Runs.{Rule, rule}
use Rattle.question.specs.Rounds.{larger, largest_below, plus, Over, adds, by_rule, one_more, heaviest}
use Rattle.question.specs.Weighing.{capped, Shows}

-- Capped weights.

capped_larger : (a b : Option ℕ) → capped (larger a b) ≡ larger (capped a) (capped b)
capped_larger None b = refl
capped_larger (Some m) None = refl
capped_larger (Some m) (Some n) = ap Some (omega arith)

-- The library's larger one of two weights.
pub max_larger : (a b : Option ℕ) → ord_max (option_cmp nat_cmp) a b ≡ larger a b
max_larger None None = refl
max_larger None (Some n) = refl
max_larger (Some m) None = refl
max_larger (Some m) (Some n) = grind arith

larger_none : (a : Option ℕ) → larger a None ≡ a
larger_none None = refl
larger_none (Some m) = refl

capped_plus : (d : ℕ) (o : Option ℕ) → capped (plus d (capped o)) ≡ capped (plus d o)
capped_plus d None = refl
capped_plus d (Some w) = ap Some (omega arith)

pub over_capped : (o : Option ℕ) → Over (capped o) → Over o
over_capped None h = h
over_capped (Some w) h = omega arith

pub capped_over : (o : Option ℕ) → Over o → Over (capped o)
capped_over None h = h
capped_over (Some w) h = omega arith

-- The rises that begin with rule number k.
module _ (rules : List Rule) (n k : ℕ) where
  by_rule_shut : (f : ℕ → Option ℕ) (p : ℕ) → ((rule rules k).from ≡ p → (rule rules k).to ≡ p) → by_rule rules n f p k ≡ None
  by_rule_shut f p h = let test : (eqb (rule rules k).from p && not (eqb (rule rules k).to p)) ≡ false = grind (arith, nat_tests) in rw test refl

  by_rule_rest : (f : ℕ → Option ℕ) (p : ℕ) (rest : Option ℕ) → rest ≡ capped (f (rule rules k).to) → capped (by_rule rules n (λ _. rest) p k) ≡ capped (by_rule rules n f p k)
  by_rule_rest f p rest e = by (eqb (rule rules k).from p && not (eqb (rule rules k).to p))
    where
      by : (b : Bool) → capped (cond b (plus (adds rules n k) rest) None) ≡ capped (cond b (plus (adds rules n k) (f (rule rules k).to)) None)
      by true = ap (λ o. capped (plus (adds rules n k) o)) e ∙ capped_plus (adds rules n k) (f (rule rules k).to)
      by false = refl

-- A round.
module _ (rules : List Rule) (n : ℕ) (f : ℕ → Option ℕ) where
  -- The heaviest rise by a rule below k.
  abbrev pub so_far : ℕ → ℕ → Option ℕ
  so_far k p = largest_below k (by_rule rules n f p)

  pub none_yet : Shows (so_far 0) (replicate 256 None)
  none_yet = record { size = refl; at = λ p h. get_or-replicate 256 p None None h }

  -- The weight v of the rises that begin with rule k goes to their stage, i.
  pub rule_more : (k i : ℕ) (t : List (Option ℕ)) (o v x : Option ℕ) → i < 256 → (rule rules k).from ≡ i → o ≡ capped (f (rule rules k).to) →
      v ≡ capped (by_rule rules n (λ _. o) (rule rules k).from k) → x ≡ larger (get_or t i None) v → Shows (so_far k) t → Shows (so_far (k + 1)) (set t i x)
  rule_more k i t o v x l from rest e new s = record { size = length-set t i x ∙ s.size; at = λ p h. rw add-one (by p h (ℕ_discrete p i)) }
    where
      here : get_or (set t i x) i None ≡ capped (larger (so_far k i) (by_rule rules n f i k))
      here =
          get_or-set_same t i x None (omega (arith, s.size)) ∙ new
          ∙ ap₂ larger (s.at i l) (e ∙ ap (λ (p : ℕ). capped (by_rule rules n (λ _. o) p k)) from ∙ by_rule_rest rules n k f i o rest)
          ∙ sym (capped_larger (so_far k i) (by_rule rules n f i k))

      by : (p : ℕ) → p < 256 → Dec (p ≡ i) → get_or (set t i x) p None ≡ capped (larger (so_far k p) (by_rule rules n f p k))
      by p h (yes same) = subst (λ (q : ℕ). get_or (set t i x) q None ≡ capped (larger (so_far k q) (by_rule rules n f q k))) (sym same) here
      by p h (no other) =
          get_or-set_other t i p x None other ∙ s.at p h
          ∙ ap capped (sym (ap (larger (so_far k p)) (by_rule_shut rules n k f p (λ g. absurd (other (sym g ∙ from)))) ∙ larger_none (so_far k p)))

  pub rules_all : (k : ℕ) (t : List (Option ℕ)) → k ≡ length rules → Shows (so_far k) t → Shows (one_more rules n f) t
  rules_all k t e s = subst (λ (m : ℕ). Shows (so_far m) t) e s

-- The rounds.
module _ (rules : List Rule) (p g : ℕ) where
  pub no_round : g < 256 → Shows (heaviest rules g 0) (set (replicate 256 None) g (Some 0))
  no_round l = record { size = length-set (replicate 256 None) g (Some 0); at = λ q h. by q h (ℕ_discrete q g) }
    where
      by : (q : ℕ) → q < 256 → Dec (q ≡ g) → get_or (set (replicate 256 None) g (Some 0)) q None ≡ capped (cond (eqb q g) (Some 0) None)
      by q h (yes e) =
          let test : eqb q g ≡ true = grind (arith, nat_tests) in
          subst (λ (x : ℕ). get_or {A = Option ℕ} (set (replicate 256 None) g (Some 0)) x None ≡ Some 0) (sym e) (get_or-set_same (replicate 256 None) g (Some 0) None l)
          ∙ ap (λ (b : Bool). capped (cond b (Some 0) None)) (sym test)
      by q h (no n) =
          let test : eqb q g ≡ false = grind (arith, nat_tests) in
          get_or-set_other (replicate 256 None) g q (Some 0) None n ∙ get_or-replicate 256 q None None h ∙ ap (λ (b : Bool). capped (cond b (Some 0) None)) (sym test)

  -- None of the rounds before n has found a rise that is too heavy.
  abbrev pub Light : ℕ → Type 0
  Light n = (m : ℕ) → m < n → Over (heaviest rules g m p) → ⊥

  pub light_start : Light 1
  light_start zero l h = by (eqb p g) h
    where
      by : (b : Bool) → Over (cond b (Some 0) None) → ⊥
      by true h = omega arith
      by false h = h
  light_start (suc m) l h = omega arith
