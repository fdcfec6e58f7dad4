-- How the marks that lead to a wanted one are found: by passes over all marks, until none comes in.
use Rattle.std.specs.Prelude.{◌≡◌, ℕ, suc, ◌<◌, Bool, true, false, cond, List, [], ◌∷◌, ◌==◌}
use Rattle.model.specs.Keys.{Lead}
use Rattle.model.specs.Sieves.{next, Wanted}
use Rattle.model.specs.Symbols.{InSet}

-- Some symbol of the set leads from the mark m to one of the list.
abbrev pub LeadsOn : ℕ → List ℕ → List ℕ → ℕ → Type 0
LeadsOn set table list m = (s : ℕ) × InSet set s × Wanted list (next table m s)

-- R holds of each mark of the list.
abbrev pub Sound : (ℕ → Type 0) → List ℕ → Type 0
Sound R list = (m : ℕ) → m < 2048 → Wanted list m → R m

-- How many marks are not in the list.
abbrev pub missing : List ℕ → ℕ
missing [] = 0
missing (b ∷ bs) = cond (b == 0) (suc (missing bs)) (missing bs)

-- One pass: what is in the list stays, and either a mark came in or none is left that should.
pub record Widened (set : ℕ) (table wanted before : List ℕ) (changed : Bool) (list : List ℕ) : Type 0 where
  pub sound : Sound (Lead set table wanted) list
  pub grows : (m : ℕ) → Wanted before m → Wanted list m
  pub closed : changed ≡ false → (m s : ℕ) → m < 2048 → InSet set s → Wanted list (next table m s) → Wanted list m
  pub fewer : changed ≡ true → missing list < missing before
