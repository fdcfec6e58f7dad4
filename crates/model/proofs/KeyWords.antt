-- Words of known keys, taken apart and read through a sieve.
use Rattle.std.proofs.Common.{◌≡◌, ℕ, ◌+◌, ◌*◌, ◌<◌, ◌↔◌, List, [], ◌∷◌, ◌++◌, get_or, sym, refl, ap, ◌∙◌, subst, arith}
use Rattle.std.proofs.ByRecursion.{All-push}
use Rattle.std.specs.List.{fold}
use Rattle.std.specs.Prelude.{reverse}
use Rattle.std.proofs.lemmas.List.Sums.{fold-append}
use Rattle.std.proofs.lemmas.List.{reverse-append}
use Rattle.std.proofs.lemmas.Bool.Decides.{nat_tests}
use Rattle.std.specs.List.{AllByRecursion as All}
use Rattle.model.specs.Keys.{KeyWord, Lead}
use Rattle.model.specs.Sieves.{mark, next, run, Wanted}
use Rattle.model.specs.Symbols.{InSet}

-- The innermost symbol is read first.
pub run_push : (table : List ℕ) (m : ℕ) (keys : List ℕ) (s : ℕ) → run table m (keys ++ s ∷ []) ≡ run table (next table m s) keys
run_push table m [] s = refl
run_push table m (k ∷ keys) s = ap (λ x. next table x k) (run_push table m keys s)

pub mark_below : (n : ℕ) → mark n < 2048
mark_below n = grind (arith, nat_tests)

pub run_below : (table : List ℕ) (m : ℕ) (keys : List ℕ) → m < 2048 → run table m keys < 2048
run_below table m [] h = h
run_below table m (k ∷ keys) h = mark_below (get_or table (16 * run table m keys + k) 0)

module _ (set : ℕ) (table wanted : List ℕ) where
  -- A mark from which a symbol of the set leads to one that leads on does so too.
  pub lead_back : (m s : ℕ) → InSet set s → Lead set table wanted (next table m s) → Lead set table wanted m
  lead_back m s is l = (l.0 ++ s ∷ [], All-push (InSet set) l.0 s l.1 is, subst (Wanted wanted) (sym (run_push table m l.0 s)) l.2)

  -- A list that is closed backward under the symbols of the set has each mark from which they lead to one of the list.
  pub closed_all : (list : List ℕ) → ((m s : ℕ) → m < 2048 → InSet set s → Wanted list (next table m s) → Wanted list m)
      → (keys : List ℕ) (m : ℕ) → m < 2048 → All (InSet set) keys → Wanted list (run table m keys) → Wanted list m
  closed_all list closed [] m lt all t = t
  closed_all list closed (k ∷ keys) m lt all t = closed_all list closed keys m lt all.1 (closed (run table m keys) k (run_below table m keys lt) all.0 t)

  -- Some word of known keys ends at a wanted mark exactly if symbols of the set lead there from the mark of the end symbol.
  pub keys_lead : (end first : ℕ) → end < 16 → (Lead set table wanted (next table first end) ↔ ((w : List ℕ) × KeyWord set end w × Wanted wanted (run table first w)))
  keys_lead end first small = (
    λ l. (l.0 ++ end ∷ [], (small, (l.0, l.1, refl)), subst (Wanted wanted) (sym (run_push table first l.0 end)) l.2),
    λ h. (h.1.1.0, h.1.1.1, subst (Wanted wanted) (ap (run table first) h.1.1.2 ∙ run_push table first h.1.1.0 end) h.2),
  )

-- Reading a word is a fold over its symbols, the last one first.
pub run_is_fold : (table : List ℕ) (m : ℕ) (w : List ℕ) → fold (next table) m (reverse w) ≡ run table m w
run_is_fold table m [] = refl
run_is_fold table m (s ∷ w) = ap (fold (next table) m) (reverse-append (s ∷ []) w) ∙ fold-append (next table) m (reverse w) (s ∷ []) ∙ ap (λ x. next table x s) (run_is_fold table m w)
