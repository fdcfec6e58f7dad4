-- The words of a book, by its entries.
use Rattle.std.specs.Prelude.{◌≡◌, ℕ, List, ◌∷◌, ◌++◌, length}
use Rattle.model.specs.Symbols.{Symbols}

-- The bytes open with the entry v: its length, its symbols, and then the rest.
pub record Opens (bytes v rest : List ℕ) : Type 0 where
  pub split : bytes ≡ length v ∷ (v ++ rest)

-- No entry is left: the bytes are none, or their end cuts the first.
abbrev pub Spent : List ℕ → Type 0
Spent bytes = (v rest : List ℕ) → Opens bytes v rest → ⊥

-- w is an entry of the bytes: their first, or one of those after it.
pub data Entry (w : List ℕ) : List ℕ → Type 0 where
  first : {bytes rest : List ℕ} → Opens bytes w rest → Entry w bytes
  later : {bytes v rest : List ℕ} → Opens bytes v rest → Entry w rest → Entry w bytes

-- The words of a book are its entries that are lists of symbols.
abbrev pub BookWord : List ℕ → List ℕ → Type 0
BookWord bytes w = Entry w bytes × Symbols w
