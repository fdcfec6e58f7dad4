-- Records as bytes.
use Rattle.std.specs.Prelude.{◌≡◌, ℕ, ◌+◌, ◌*◌, ◌/◌, ◌%◌, ◌<◌, List, ◌∷◌, ◌++◌, length, slice_index}

-- A tag, the length of the value in two bytes, the high one first, and the value.
abbrev pub written : ℕ → List ℕ → List ℕ
written tag value = tag ∷ length value / 256 ∷ length value % 256 ∷ value

-- The bytes begin with a record, and rest is what comes after it.
pub record Begins (bytes : List ℕ) (tag : ℕ) (value rest : List ℕ) : Type 0 where
  pub short : length value < 65536
  pub split : bytes ≡ written tag value ++ rest

-- The length that a header gives; a byte that is not there counts as 0.
abbrev pub said : List ℕ → ℕ
said bytes = 256 * slice_index bytes 1 + slice_index bytes 2

-- There are bytes, and fewer than the header and its length need.
pub record CutShort (bytes : List ℕ) : Type 0 where
  pub some : 0 < length bytes
  pub few : length bytes < 3 + said bytes

-- The first byte is this one.
abbrev pub Starts : ℕ → List ℕ → Type 0
Starts tag bytes = (rest : List ℕ) × (bytes ≡ tag ∷ rest)
