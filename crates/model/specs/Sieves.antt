-- How a word is read through a table of marks.
use Rattle.std.specs.Prelude.{ℕ, ◌+◌, ◌*◌, ◌<◌, Bool, cond, Decides, List, [], ◌∷◌, nat_lt, slice_index}
use Rattle.model.specs.declared.sieve.Sieve.{Sieve}

-- A number that is no mark counts as mark 0.
abbrev pub mark : ℕ → ℕ
mark n = cond (nat_lt n 2048) n 0

-- The mark to which symbol s leads from mark m; a missing entry counts as mark 0.
abbrev pub next : List ℕ → ℕ → ℕ → ℕ
next table m s = mark (slice_index table (16 * m + s))

-- The mark at which a word ends, read from its innermost symbol, which is the last of the list.
abbrev pub run : List ℕ → ℕ → List ℕ → ℕ
run table m [] = m
run table m (s ∷ w) = next table (run table m w) s

-- The list has a non-zero byte at m.
abbrev pub Wanted : List ℕ → ℕ → Type 0
Wanted wanted m = 0 < slice_index wanted m

-- The list wants the marks of which the test holds, and no others.
abbrev pub WantedWhere : (ℕ → Bool → Type 0) → List ℕ → Type 0
WantedWhere Says list = (m : ℕ) → m < 2048 → (yes : Bool) × Says m yes × Decides yes (Wanted list m)

-- The word, read from the first mark, ends at a wanted mark.
abbrev pub Caught : Sieve → List ℕ → Type 0
Caught s w = Wanted s.wanted.now (run s.table.now (mark s.first) w)

-- Some word of the set does.
abbrev pub Meets : (List ℕ → Type 0) → Sieve → Type 0
Meets W s = (w : List ℕ) × W w × Caught s w
