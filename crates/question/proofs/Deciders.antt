-- From a saturated table to words of the pool, and from those to runs.
use Rattle.std.proofs.Common.{◌≡◌, ℕ, ◌<◌, ◌≤◌, Bool, true, false, ◌↔◌, List, [], length, get_or, Option, Some, None, Decides, MatchBool, sym, refl, ap, ◌∙◌, subst, zero-add, arith}
use Rattle.std.specs.List.{AllWithin, HoldsAt, enumerate_from}
use Rattle.std.proofs.lemmas.Bool.{false≢true}
use Rattle.std.proofs.lemmas.List.{get_or-map, length-map}
use Rattle.std.proofs.lemmas.List.FromFn.{length-enumerate_from, get_or-enumerate_from}
use Rattle.std.proofs.lemmas.Bool.Decides.{Decides-like}
use Rattle.model.specs.Sieves.{mark, run, Wanted}
use Rattle.model.specs.Symbols.{Symbols}
use Rattle.question.specs.Accepts.{Has, Accepts}
use Rattle.question.specs.Coding.{supplier_of, suppliers_of, Right}
use Rattle.question.specs.Feasible.{Accepted, Pooled, Served, Servable, RunsBy}
use Rattle.question.specs.Marks.{Saturated}
use Rattle.question.specs.Rises.{weight, weight_limit}
use Rattle.question.specs.Runs.{Word, Rule, Climb}
use Rattle.question.specs.Supply.{supplied_by, Fits}
use Rattle.question.specs.declared.clause.Clause.{Clause}
use Rattle.question.proofs.Criterion.{criterion}
use Rattle.question.proofs.Deciding.{read_below}
use Rattle.question.proofs.Sieving.{mark_is, run_is, run_decides}
use Rattle.question.specs.Ways.{Supplies, ways}
use Rattle.question.proofs.Ways.{NoneBelow, none_left}

run_below : {cs : List Clause} {t : List ℕ} {first : ℕ} → Saturated cs t first → (w : Word) → Symbols w → run t (mark first) w < 2048
run_below {t = t} {first = first} s w ok =
    subst (λ m. m < 2048) (sym (ap (λ m. run t m w) (mark_is first s.mark) ∙ run_is s.rows w first ok s.mark)) (read_below s.rows w first ok s.mark)

module _ (P : Word → Type 0) (symbols : (w : Word) → P w → Symbols w) where
  -- A sieve that wants the marks with a bit meets the pool exactly if the bit accepts some word of it.
  pub meets_accepts : (table wanted : List ℕ) (first bit : ℕ) (r : Bool) → ((m : ℕ) → m < 2048 → Wanted wanted m ↔ Has m bit) → Decides r ((w : Word) × P w × Wanted wanted (run table (mark first) w)) → Accepted P table first bit r
  meets_accepts table wanted first bit r wants d cs t =
      Decides-like r
      (λ h. (h.0, h.1, (run_decides t h.0 (symbols h.0 h.1) bit).0 ((wants _ (run_below t h.0 (symbols h.0 h.1))).0 h.2)))
      (λ h. (h.0, h.1, (wants _ (run_below t h.0 (symbols h.0 h.1))).1 ((run_decides t h.0 (symbols h.0 h.1) bit).1 h.2)))
      d

  -- With the clauses of a climb, the words that a bit accepts are those that fit.
  pub pooled_serves : (rules : List Rule) (climb : Climb) (suppliers : List ℕ) (cs : List Clause) (table : List ℕ) (first : ℕ) (r : Bool) → length suppliers ≡ length climb →
      Right rules climb suppliers cs → Saturated cs table first → Pooled P table first suppliers r → Served rules P climb suppliers r
  pooled_serves rules climb suppliers cs table first r each right t d =
      Decides-like r
      (λ h j lt from. let x = h j (omega (arith, each)) from in (x.0, x.1, (right j lt x.0).0 x.2))
      (λ h j lt from. let lt' : j < length climb = omega (arith, each) in let x = h j lt' from in (x.0, x.1, (right j lt' x.0).1 x.2))
      (d cs t)

supplier_zero : (s : Option ℕ) → supplier_of s ≡ 0 → s ≡ None
supplier_zero None e = refl
supplier_zero (Some j) e = absurd (omega (arith, e))

-- What is found for each supplier with its number is found for each rule that the pool supplies.
module _ (cs : List Clause) (P : Word → Type 0) (suppliers : List (Option ℕ)) where
  abbrev Found : ℕ × Option ℕ → Type 0
  Found p = p.1 ≡ None → (w : Word) × P w × Accepts cs p.0 w

  abbrev Wants : ℕ → Type 0
  Wants j = supplied_by (suppliers_of suppliers) j ≡ 0 → (w : Word) × P w × Accepts cs j w

  module _ (k : ℕ) (less : k < length suppliers) where
    at_number : get_or (enumerate_from 0 suppliers) k (0, None) ≡ (k, get_or suppliers k None)
    at_number = get_or-enumerate_from 0 suppliers k (0, None) less ∙ ap (λ n. (n, get_or suppliers k None)) (zero-add k)

    supplier_at : supplied_by (suppliers_of suppliers) k ≡ supplier_of (get_or suppliers k None)
    supplier_at = get_or-map supplier_of suppliers k None 0 less

    wanted_at : Found (get_or (enumerate_from 0 suppliers) k (0, None)) ↔ Wants k
    wanted_at = (λ h zero. subst Found at_number h (supplier_zero _ (sym supplier_at ∙ zero)), λ h. subst Found (sym at_number) (λ none. h (supplier_at ∙ ap supplier_of none)))

  pub found_by_all : (r : Bool) →
      MatchBool r (AllWithin Found (enumerate_from 0 suppliers) 0 (length (enumerate_from 0 suppliers)))
      ((k : ℕ) × (k < length (enumerate_from 0 suppliers)) × HoldsAt (λ p. Found p → ⊥) (enumerate_from 0 suppliers) k) →
      Decides r ((j : ℕ) → j < length (suppliers_of suppliers) → Wants j)
  found_by_all true h = (
    λ _ j less. (wanted_at j (omega (arith, less, length-map suppliers supplier_of))).0 (h j (0, None) (omega arith) (omega (arith, less, length-map suppliers supplier_of, length-enumerate_from 0 suppliers))),
    λ _. refl,
  )
  found_by_all false (k, less, h) = (
    λ e. absurd (false≢true e),
    λ all.
        let less' : k < length suppliers = omega (arith, less, length-enumerate_from 0 suppliers) in
        absurd (h (0, None) ((wanted_at k less').1 (all k (omega (arith, less', length-map suppliers supplier_of))))),
  )

module _ (rules : List Rule) (P : Word → Type 0) (climb : Climb) where
  -- With these suppliers the pool serves the climb.
  abbrev pub Serving : List ℕ → Type 0
  Serving s = (j : ℕ) → j < length climb → supplied_by s j ≡ 0 → (w : Word) × P w × Fits rules climb (supplied_by s) 0 j w

  -- A choice of suppliers that serves is found, or there is none.
  pub way_serves : (s : List ℕ) → Supplies (length climb) s → Serving s → weight rules climb ≤ weight_limit → Servable rules P climb
  way_serves s h serving light = (light, (s, record { each = h.each; earlier = h.earlier; pooled = serving }))

  pub none_serves : (k : ℕ) → length climb ≤ 4 → ways (length climb) ≤ k → NoneBelow Serving (length climb) k → Servable rules P climb → ⊥
  none_serves k few all none t = let (s, h) = t.1 in none_left none few all s (record { each = h.each; earlier = h.earlier }) h.pooled

  -- By the criterion, a rise has a run exactly if it can be served.
  pub serves_runs : (r : Bool) → Decides r (Servable rules P climb) → RunsBy rules P climb r
  serves_runs r d light p g rise =
      Decides-like r (λ t. (criterion P rules p g [] climb).1 (rise, t.1)) (λ t. (light, ((criterion P rules p g [] climb).0 t).1)) d
