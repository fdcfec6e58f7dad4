-- Symbols, and sets of them.
use Rattle.std.specs.Prelude.{◌≡◌, ℕ, ◌/◌, ◌%◌, ◌^◌, ◌<◌, List}
use Rattle.std.specs.List.{AllByRecursion}

-- A word is a list of symbols, the outermost first, and a symbol is 0 to 15.
abbrev pub Symbols : List ℕ → Type 0
Symbols w = AllByRecursion (λ s. s < 16) w

-- Symbol s is in the set: bit s is set.
abbrev pub InSet : ℕ → ℕ → Type 0
InSet set s = (s < 16) × (set / 2 ^ s % 2 ≡ 1)
