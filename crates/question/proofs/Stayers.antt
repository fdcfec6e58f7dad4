-- A walk over the staying rules of a stage.
use Rattle.std.proofs.Common.{◌≡◌, ℕ, ◌+◌, ◌<◌, ◌≤◌, Bool, true, false, cond, List, [], ◌∷◌, ◌++◌, length, get_or, map, filter, drop, sym, refl, ap, ◌∙◌, subst, arith, Bor}
use Rattle.std.proofs.lemmas.List.Folds.{flat_map-map}
use Rattle.std.proofs.lemmas.List.Sums.{length-filter, count_by-le-length}
use lib.ListN.{length-map}
use Rattle.std.proofs.lemmas.List.{at_drop_more, at_drop_all, get_or-map}
use Rattle.std.specs.List.{flat_map}
use Rattle.question.specs.Lists.{In}
use Rattle.question.specs.Runs.{Rule}
use Rattle.question.specs.Rises.{stays_at, staying}
use Rattle.question.specs.Rules.{rule_of, rules_of}
use Rattle.question.specs.declared.rule.Rule.{Rule as Held}
use Rattle.question.proofs.Members.{in_get_d}

-- The rules of the code that stay at the stage p.
abbrev pub stayers : ℕ → List Held → List Held
stayers p rules = filter (λ r. stays_at p (rule_of r)) rules

stayers_stand : (p : ℕ) (rules : List Held) → rules_of (stayers p rules) ≡ staying (rules_of rules) p
stayers_stand p [] = refl
stayers_stand p (r ∷ rules) = by (stays_at p (rule_of r)) (stayers_stand p rules)
  where
    by : (t : Bool) → rules_of (stayers p rules) ≡ staying (rules_of rules) p → rules_of (cond t (r ∷ stayers p rules) (stayers p rules)) ≡ cond t (rule_of r ∷ staying (rules_of rules) p) (staying (rules_of rules) p)
    by true e = ap (λ l. rule_of r ∷ l) e
    by false e = e

pub stayer_in : (p : ℕ) (rules : List Held) (k : ℕ) (r : Held) → (k < length (stayers p rules)) × (r ≡ get_or (stayers p rules) k r) → In (rule_of r) (staying (rules_of rules) p)
stayer_in p rules k r (less, is) =
    let all = stayers p rules in
    subst (In (rule_of r)) (stayers_stand p rules) (in_get_d (rule_of r) (rules_of all) k (omega (arith, length-map all rule_of, less)) (ap rule_of is ∙ sym (get_or-map rule_of all k r (rule_of r) less)))

pub stayers_few : (p : ℕ) (rules : List Held) → length (stayers p rules) ≤ length rules
stayers_few p rules = omega (arith, length-filter (λ r. stays_at p (rule_of r)) rules, count_by-le-length (λ r. stays_at p (rule_of r)) rules)

-- What f gives for all of them, once they were yielded.
pub stayers_yielded : {X : Type 0} (f : Rule → List X) (p : ℕ) (rules : List Held) (yielded : List (Bor Held)) → map (λ r. r.now) yielded ≡ stayers p rules →
    flat_map (λ r. f (rule_of r.now)) yielded ≡ flat_map f (staying (rules_of rules) p)
stayers_yielded f p rules yielded e =
    sym (flat_map-map (λ r. f (rule_of r)) (λ r. r.now) yielded) ∙ ap (flat_map (λ r. f (rule_of r))) e ∙ sym (flat_map-map f rule_of (stayers p rules)) ∙ ap (flat_map f) (stayers_stand p rules)

-- What f gives for them, from number k of them on.
module _ {X : Type 0} (f : Rule → List X) (p : ℕ) (rules : List Held) where
  abbrev pub left_from : ℕ → List X
  left_from k = flat_map f (rules_of (drop k (stayers p rules)))

  pub left_all : left_from 0 ≡ flat_map f (staying (rules_of rules) p)
  left_all = ap (flat_map f) (stayers_stand p rules)

  pub left_next : (k : ℕ) (r : Held) → (k < length (stayers p rules)) × (r ≡ get_or (stayers p rules) k r) → left_from k ≡ f (rule_of r) ++ left_from (k + 1)
  left_next k r (less, is) = at_drop_more (λ l. flat_map f (rules_of l)) (stayers p rules) k r less ∙ ap (λ x. f (rule_of x) ++ left_from (k + 1)) (sym is)

  pub left_none : (yielded : List (Bor Held)) → map (λ r. r.now) yielded ≡ stayers p rules → left_from (length yielded) ≡ []
  left_none yielded e = at_drop_all (λ l. flat_map f (rules_of l)) (stayers p rules) (length yielded) (omega (arith, ap length e, length-map yielded (λ (r : Bor Held). r.now)))
