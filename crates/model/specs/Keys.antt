-- The words of known keys, and the marks from which known keys lead to a wanted one.
use Rattle.std.specs.Prelude.{◌≡◌, ℕ, ◌<◌, List, [], ◌∷◌, ◌++◌}
use Rattle.std.proofs.Common.{sym, subst}
use Rattle.std.specs.List.{AllByRecursion}
use Rattle.model.specs.Sieves.{run, Wanted}
use Rattle.model.specs.Symbols.{Symbols, InSet}

-- Zero or more symbols of the set, and then the end symbol.
abbrev pub KeyWord : ℕ → ℕ → List ℕ → Type 0
KeyWord set end w = (end < 16) × ((keys : List ℕ) × AllByRecursion (InSet set) keys × (w ≡ keys ++ end ∷ []))

all_keys : (set end : ℕ) (keys : List ℕ) → end < 16 → AllByRecursion (InSet set) keys → Symbols (keys ++ end ∷ [])
all_keys set end [] e h = (e, tt)
all_keys set end (k ∷ keys) e h = (h.0.0, all_keys set end keys e h.1)

-- Such words are lists of symbols.
pub key_symbols : (set end : ℕ) (w : List ℕ) → KeyWord set end w → Symbols w
key_symbols set end w h = subst Symbols (sym h.1.2) (all_keys set end h.1.0 h.0 h.1.1)

-- Symbols of the set, zero or more, lead from the mark m to a wanted one.
abbrev pub Lead : ℕ → List ℕ → List ℕ → ℕ → Type 0
Lead set table wanted m = (keys : List ℕ) × AllByRecursion (InSet set) keys × Wanted wanted (run table m keys)
