-- The list of the marks that are reached grows.
use Rattle.std.proofs.Common.{◌≡◌, ℕ, ◌<◌, List, get_or, sym, ap, ◌∙◌, subst, ⊎_elim, arith}
use Rattle.std.specs.List.{SwappedAt}
use Rattle.std.proofs.lemmas.Bool.{cases_eq}
use Rattle.question.specs.Marks.{cell_of, Placed}
use Rattle.question.specs.Walks.{SeenIn, Extends}
use Rattle.question.specs.declared.reached.Reached.{Reached}

-- The mark m takes the place n in the list xs, and what stood there takes the place of m; `at` says the places.
module _ (at xs at' xs' : List ℕ) (m n : ℕ) (marks : Placed at xs) (places : Placed xs at) (small : m < 2048) (room : n < 2048) where
  abbrev p : ℕ
  p = get_or at m 0

  abbrev o : ℕ
  o = get_or xs n 0

  abbrev At : ℕ → Type 0
  At k = (get_or at' k 0 < 2048) × (get_or xs' (get_or at' k 0) 0 ≡ k)

  stands : (k j : ℕ) → get_or at' k 0 ≡ j → j < 2048 → get_or xs' j 0 ≡ k → At k
  stands k j e low is = (subst (λ i. i < 2048) (sym e) low, ap (λ i. get_or xs' i 0) e ∙ is)

  pub exchanged : SwappedAt at at' m o → SwappedAt xs xs' p n → Placed at' xs'
  exchanged a x k h =
      ⊎_elim
      (λ e. subst At (sym e) (stands m n (a.0 0 ∙ (places n room).1) room (x.1 0 ∙ (marks m small).1)))
      (λ not_m. ⊎_elim
      (λ e. subst At (sym e) (stands o p (a.1 0) (marks m small).0 (x.0 0)))
      (λ not_o.
      let back : get_or xs (get_or at k 0) 0 ≡ k = (marks k h).1 in
      stands k (get_or at k 0) (a.2 k 0 not_m not_o) (marks k h).0
      (x.2 (get_or at k 0) 0 (λ e. not_m (sym back ∙ ap (λ i. get_or xs i 0) e ∙ (marks m small).1)) (λ e. not_o (sym back ∙ ap (λ i. get_or xs i 0) e)) ∙ back))
      (cases_eq k o))
      (cases_eq k m)

pub extends_then : {f f' f'' : Reached} → Extends f f' → Extends f' f'' → Extends f f''
extends_then one two = record {
  longer = omega (arith, one.longer, two.longer);
  same = λ j h. two.same j (omega (arith, one.longer)) ∙ one.same j h;
  keeps = λ m h. two.keeps m (one.keeps m h);
}

-- the marks of the cells of m before the symbol n are added
pub record Noting (t : List ℕ) (f : Reached) (m n : ℕ) (f' : Reached) : Type 0 where
  pub extends : Extends f f'
  pub seen : (a : ℕ) → a < n → SeenIn f' (cell_of t m a)
