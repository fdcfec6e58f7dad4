-- The words of a pool that may be missing.
use Rattle.std.specs.Prelude.{ℕ, List, Some, None, Option}
use Rattle.std.specs.Option.{IsSomeAnd}
use Rattle.model.specs.Symbols.{Symbols}

-- They are lists of symbols where those of the pool are.
pub option_symbols : {P : Type 0} (words : P → List ℕ → Type 0) → ((p : P) (w : List ℕ) → words p w → Symbols w)
    → (o : Option P) (w : List ℕ) → IsSomeAnd o (λ p. words p w) → Symbols w
option_symbols words symbols None w h = absurd h
option_symbols words symbols (Some p) w h = symbols p w h
