-- The word that a row holds, and when words make a row.
use Rattle.std.specs.Prelude.{ℕ, ◌≤◌, List, take, Result, Ok, Err}
use Rattle.question.specs.declared.row.Row.{Row}
use Rattle.question.specs.declared.row.WordError.{WordError}
use Rattle.question.specs.declared.row.WordError.TheVariants.{TooLong, SymbolTooHigh}

abbrev pub held : {N : ℕ} → Row N → List ℕ
held row = take row.len row.symbols

-- So many symbols go into a row of at most n. A row counts them in a byte.
abbrev pub HasRoom : ℕ → ℕ → Type 0
HasRoom n long = (n ≤ 255) × (long ≤ n)

-- A value is made of words if they fit and have symbols only, and is what it is to be. Lengths are judged before symbols.
abbrev pub IsMade : {X : Type 0} → Type 0 → Type 0 → (X → Type 0) → Result X WordError → Type 0
IsMade fits symbols Wanted (Ok x) = fits × symbols × Wanted x
IsMade fits symbols Wanted (Err TooLong) = fits → ⊥
IsMade fits symbols Wanted (Err SymbolTooHigh) = fits × (symbols → ⊥)
