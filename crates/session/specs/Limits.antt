-- The limits of a session. (Rises has the limit of weights.)
use Rattle.std.specs.Prelude.{ℕ}

-- How many symbols a side of a rule may have.
abbrev pub side_limit : ℕ
side_limit = 4

-- How many symbols a word may have that is heard, fired or made by a fire.
abbrev pub word_limit : ℕ
word_limit = 32

-- How many rules there are places for.
abbrev pub rule_places : ℕ
rule_places = 32

-- How many heard words there are places for.
abbrev pub heard_places : ℕ
heard_places = 64

-- How many cells of the workspace an ask uses.
abbrev pub cells_used : ℕ
cells_used = 32768

-- How many bytes of the climb list an ask uses.
abbrev pub list_used : ℕ
list_used = 4
