-- The list of the marks that are reached.
use Rattle.std.specs.Prelude.{◌≡◌, ℕ, ◌<◌, ◌≤◌, List, slice_index}
use Rattle.question.specs.Marks.{cell_of}
use Rattle.question.specs.declared.reached.Reached.{Reached}

-- m is one of the marks that are reached
abbrev pub SeenIn : Reached → ℕ → Type 0
SeenIn f m = (m < 2048) × (slice_index f.place m < f.len)

-- f' has what f has, at the same places
pub record Extends (f f' : Reached) : Type 0 where
  pub longer : f.len ≤ f'.len
  pub same : (j : ℕ) → j < f.len → slice_index f'.list j ≡ slice_index f.list j
  pub keeps : (m : ℕ) → SeenIn f m → SeenIn f' m

-- each cell of m holds a mark that is reached
abbrev pub RowSeen : List ℕ → Reached → ℕ → Type 0
RowSeen t f m = (a : ℕ) → a < 16 → SeenIn f (cell_of t m a)
