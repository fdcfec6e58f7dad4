-- What a table of marks says of words.
--
-- A mark is a set of bits below 2048. The table has a row of 16 cells for each mark: the mark of a·x stands
-- in row `mark of x`, at the symbol a.
use Rattle.std.specs.Prelude.{◌≡◌, ℕ, ◌+◌, ◌*◌, ◌<◌, ◌≤◌, ◌↔◌, List, [], ◌∷◌, length, slice_index}
use Rattle.model.specs.Symbols.{Symbols}
use Rattle.question.specs.Accepts.{Has, Accepts}
use Rattle.question.specs.declared.clause.Clause.{Clause}

-- the table has all of its cells, and each holds a mark
pub record Rows (t : List ℕ) : Type 0 where
  pub long : 32768 ≤ length t
  pub below : (k : ℕ) → k < 32768 → slice_index t k < 2048

-- the cell of the mark m and the symbol a
abbrev pub cell_of : List ℕ → ℕ → ℕ → ℕ
cell_of t m a = slice_index t (16 * m + a)

-- the mark once the word is read, last symbol first, from the mark m
abbrev pub read_from : List ℕ → List ℕ → ℕ → ℕ
read_from t [] m = m
read_from t (a ∷ w) m = cell_of t (read_from t w m) a

-- a bit is in the mark of a word exactly where it accepts the word
abbrev pub Decided : List Clause → List ℕ → ℕ → Type 0
Decided cs t first = (x : List ℕ) → Symbols x → (b : ℕ) → Has (read_from t x first) b ↔ Accepts cs b x

-- a table of marks that decides every word, from the mark `first` of the empty word
pub record Saturated (cs : List Clause) (t : List ℕ) (first : ℕ) : Type 0 where
  pub rows : Rows t
  pub mark : first < 2048
  pub decided : Decided cs t first

-- each number below 2048 has a place in xs, which `at` says
abbrev pub Placed : List ℕ → List ℕ → Type 0
Placed at xs = (k : ℕ) → k < 2048 → (slice_index at k < 2048) × (slice_index xs (slice_index at k) ≡ k)

-- each bit of s is in m
abbrev pub Within : ℕ → ℕ → Type 0
Within s m = (b : ℕ) → Has s b → Has m b
