-- The walk over the list of the marks that are reached.
use Rattle.std.proofs.Common.{◌≡◌, ℕ, ◌+◌, ◌<◌, ◌≤◌, Bool, false, ◌||◌, List, get_or, sym, ◌∙◌, subst, arith}
use Rattle.question.specs.Stable.{cells_of, RowSettled, Turn}
use Rattle.question.specs.Walks.{SeenIn, Extends, RowSeen}
use Rattle.question.proofs.Noting.{extends_then}
use Rattle.question.proofs.Turns.{Sweep, sweep_more}
use Rattle.question.specs.declared.clause.Clause.{Clause}
use Rattle.question.specs.declared.table.Table.{Table}
use Rattle.question.specs.declared.reached.Reached.{Reached}

-- nothing is left to do at the row of m
abbrev pub Done : List Clause → List ℕ → Reached → ℕ → Type 0
Done cs t f m = RowSettled cs t m × RowSeen t f m

-- the rows of the first i marks of the list are visited
pub record Walking (cs : List Clause) (t : Table) (f : Reached) (i : ℕ) (t' : Table) (f' : Reached) (changed : Bool) : Type 0 where
  pub sweep : Sweep (◌≡◌ cs) (λ u k. Done cs u f' (get_or f'.list k 0)) t i t' changed
  pub extends : Extends f f'
  pub within : i ≤ f'.len

module _ {cs : List Clause} {t : Table} {f : Reached} {i : ℕ} {t' : Table} {f' : Reached} {before : Bool} (so_far : Walking cs t f i t' f' before) where
  pub walking_more : {t'' : Table} {f'' : Reached} {now : Bool} {m : ℕ} → i < f'.len → m ≡ get_or f'.list i 0 → Turn (◌≡◌ cs) t' t'' now → (now ≡ false → RowSettled cs (cells_of t'') m) → Extends f' f'' → RowSeen (cells_of t'') f'' m → Walking cs t f (i + 1) t'' f'' (before || now)
  walking_more {t''} {f''} inside is turn settled extends seen = record {
    sweep =
        sweep_more so_far.sweep turn
        (λ k h done. subst (Done cs (cells_of t') f'') (sym (extends.same k (omega (arith, so_far.within)))) (done.0, λ a small. extends.keeps _ (done.1 a small)))
        (λ e. subst (Done cs (cells_of t'') f'') (is ∙ sym (extends.same i inside)) (settled e, seen));
    extends = extends_then so_far.extends extends;
    within = omega (arith, extends.longer);
  }

  -- each mark of the list is visited
  pub walking_all : f'.len ≤ i → before ≡ false → (m : ℕ) → SeenIn f' m → Done cs (cells_of t') f' m
  walking_all all e m seen = subst (Done cs (cells_of t') f') (f'.marks m seen.0).1 (so_far.sweep.done e (get_or f'.place m 0) (omega (arith, seen.1)))
