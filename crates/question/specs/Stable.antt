-- When a table is right: it claims nothing that does not follow, and nothing is left to add.
use Rattle.std.specs.Prelude.{◌≡◌, ℕ, ◌-◌, ◌<◌, ◌≤◌, Bool, true, false, ◌⊎◌, List, [], ◌∷◌, Some, None, sum_by, Option}
use Rattle.question.specs.Accepts.{Has, Stands, body_word, Accepts}
use Rattle.question.specs.Marks.{cell_of, read_from, Within}
use Rattle.question.specs.declared.clause.Clause.{Clause}
use Rattle.question.specs.declared.table.Table.{Table}

-- every bit of the mark m accepts x
abbrev pub TrueOf : List Clause → ℕ → List ℕ → Type 0
TrueOf cs m x = (b : ℕ) → Has m b → Accepts cs b x

-- if a mark m is true of x, its cell at a is true of a·x
abbrev pub Sound : List Clause → List ℕ → Type 0
Sound cs t = (m a : ℕ) (x : List ℕ) → m < 2048 → a < 16 → TrueOf cs m x → TrueOf cs (cell_of t m a) (a ∷ x)

-- the clause's body holds of word·x, m being the mark of x
abbrev pub Holds : List ℕ → Clause → ℕ → Type 0
Holds t c m = Within c.body (read_from t (body_word c) m)

-- A clause can add to two kinds of places: one symbol above a mark, p being that symbol, and the empty word, where p is `None`.
-- With a head symbol it adds where p is that symbol, without one everywhere.
abbrev pub Fit : Option ℕ → Option ℕ → Type 0
Fit None p = Unit {0}
Fit (Some a) p = p ≡ Some a

-- the mark of x where the head is symbol·x: the mark m below the place, or the value v of the place itself
abbrev pub beneath : Option ℕ → ℕ → ℕ → ℕ
beneath None m v = v
beneath (Some a) m v = m

-- the clause adds no bit to the value v of the place p above the mark m
abbrev pub Settles : List ℕ → ℕ → Option ℕ → ℕ → Clause → Type 0
Settles t m p v c = Fit c.symbol p → Holds t c (beneath c.symbol m v) → Has v c.head

-- no clause does
abbrev pub Settled : List Clause → List ℕ → ℕ → Option ℕ → ℕ → Type 0
Settled cs t m p v = (c : Clause) → Stands c cs → Settles t m p v c

-- the clause adds no bit to a cell of the mark m
abbrev pub RowSettles : List ℕ → ℕ → Clause → Type 0
RowSettles t m c = (a : ℕ) → a < 16 → Settles t m (Some a) (cell_of t m a) c

-- no clause does
abbrev pub RowSettled : List Clause → List ℕ → ℕ → Type 0
RowSettled cs t m = (c : Clause) → Stands c cs → RowSettles t m c

-- Nothing is left to add at the empty word, nor at the marks that are seen; and a word has no other mark.
pub record Stable (cs : List Clause) (t : List ℕ) (first : ℕ) (Seen : ℕ → Type 0) : Type 0 where
  pub start : Settled cs t 0 None first
  pub start_seen : Seen first
  pub row : (m : ℕ) → Seen m → RowSettled cs t m
  pub row_seen : (m a : ℕ) → Seen m → a < 16 → Seen (cell_of t m a)

-- what one clause, read at the mark `from`, makes of a value
pub record Grown (t : List ℕ) (c : Clause) (from old new : ℕ) : Type 0 where
  pub more : old ≤ new
  pub right : (b : ℕ) → Has new b → Has old b ⊎ ((b ≡ c.head) × Holds t c from)
  pub settled : Holds t c from → Has new c.head

-- what the cells can still gain
abbrev pub room : List ℕ → ℕ
room t = sum_by (λ v. 2047 - v) t

-- the cells that a table borrows
abbrev pub cells_of : Table → List ℕ
cells_of t = t.cells.now

-- from the table t to t', which borrows the same cells: `changed` says whether a cell gained a bit, and `Given` which clauses
-- give what was gained
pub record Turn (Given : List Clause → Type 0) (t t' : Table) (changed : Bool) : Type 0 where
  pub same : t'.cells.ghost_name ≡ t.cells.ghost_name
  pub sound : (cs : List Clause) → Given cs → Sound cs (cells_of t) → Sound cs (cells_of t')
  pub falls : changed ≡ true → room (cells_of t') < room (cells_of t)
  pub stays : changed ≡ false → cells_of t' ≡ cells_of t

-- the mark of the empty word grows from `old` to `new`, and `Given` says which clauses give what it gains
pub record Started (Given : List Clause → Type 0) (t : List ℕ) (old new : ℕ) : Type 0 where
  pub more : old ≤ new
  pub sound : (cs : List Clause) → Given cs → Sound cs t → TrueOf cs old [] → TrueOf cs new []

-- a clause with no symbol adds to the mark of the empty word, and the others do not
abbrev pub Starts : Option ℕ → Type 0 → Type 0 → Type 0
Starts None Adds Stays = Adds
Starts (Some a) Adds Stays = Stays
