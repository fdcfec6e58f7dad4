-- The lines of a report, as bytes.
use Rattle.std.specs.Prelude.{◌≡◌, ℕ, ◌<◌, ◌≤◌, List, [], ◌∷◌, ◌++◌, length, drop, Ok, Err, codes, decimal, Result}
use Rattle.design.specs.declared.lines.LineShort.{LineShort}

abbrev pub newline : List ℕ
newline = 10 ∷ []

-- "stages" and the number of stages.
abbrev pub stages_line : ℕ → List ℕ
stages_line size = codes "stages " ++ decimal size ++ newline

-- A refusal that ends the report, and one after which it goes on: its number and its place.
abbrev pub stop_line : ℕ → ℕ → List ℕ
stop_line number place = codes "stop " ++ decimal number ++ codes " at " ++ decimal place ++ newline

abbrev pub no_line : ℕ → ℕ → List ℕ
no_line number place = codes "no " ++ decimal number ++ codes " at " ++ decimal place ++ newline

-- The number of the refusal of a short buffer.
abbrev pub short_number : ℕ
short_number = 9

-- A line is written to the front of a buffer, the rest of which stays, and its length is answered.
pub record Put (line before : List ℕ) (n : ℕ) (after : List ℕ) : Type 0 where
  pub room : 64 ≤ length before
  pub long : n ≡ length line
  pub bytes : after ≡ line ++ drop n before

-- Or the buffer is too short, and stays as it was.
abbrev pub LineOut : List ℕ → List ℕ → Result ℕ LineShort → List ℕ → Type 0
LineOut line before (Ok n) after = Put line before n after
LineOut line before (Err e) after = (length before < 64) × (after ≡ before)
