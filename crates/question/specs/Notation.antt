-- How words, rules and books are written down in worked designs.
use Rattle.std.specs.Prelude.{ℕ, ◌-◌, cond, List, ◌∷◌, map, length, codes, nat_lt}
use Prim.Native.String.{String}
use Rattle.std.specs.List.{flat_map}
use Rattle.model.specs.Books.{BookWord}
use Rattle.question.specs.Runs.{Word, Rule}

-- The value of a hexadecimal digit, by its code.
abbrev pub digit : ℕ → ℕ
digit c = cond (nat_lt c 58) (c - 48) (c - 55)

-- The word that is written so, a digit for each symbol: hex "1F" is symbol 1 round symbol 15.
abbrev pub hex : String → Word
hex s = map digit (codes s)

-- The rule 0:1>1:2 is turn 0 "1" 1 "2".
abbrev pub turn : ℕ → String → ℕ → String → Rule
turn p l q r = record { from = p; left = hex l; to = q; right = hex r }

-- The words of the book with these entries, by its bytes: each entry is its length and then its symbols.
abbrev pub book : List String → Word → Type 0
book entries = BookWord (flat_map (λ s. length (hex s) ∷ hex s) entries)
