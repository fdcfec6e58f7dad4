-- Which words each bit accepts, by a list of clauses.
--
-- A word is a list of symbols, outermost first. A set of bits is a number.
use Rattle.std.specs.Prelude.{◌≡◌, ℕ, ◌/◌, ◌%◌, ◌^◌, ◌<◌, List, ◌∷◌, ◌++◌, length, Some, None, Option, slice_index_or}
use Rattle.question.specs.Rows.{held}
use Rattle.question.specs.declared.clause.Clause.{Clause}

-- the bit b is in the set s: the binary digit of s at b is 1
unfoldable pub Has : ℕ → ℕ → Type 0
Has s b = (s / 2 ^ b) % 2 ≡ 1

-- the clause stands in the list, at some place k
abbrev pub Stands : Clause → List Clause → Type 0
Stands c cs = (k : ℕ) × (k < length cs) × (slice_index_or cs k c ≡ c)

-- the word that a clause's body speaks of, before x
abbrev pub body_word : Clause → List ℕ
body_word c = held c.word

-- x under a symbol, or x itself where there is none
abbrev pub under : Option ℕ → List ℕ → List ℕ
under None x = x
under (Some a) x = a ∷ x

-- `Accepts cs b x`: the bit b accepts the word x. It is the least relation that the clauses allow:
-- if every bit of c's body accepts word·x, then c's head bit accepts symbol·x.
pub data Accepts (cs : List Clause) : ℕ → List ℕ → Type 0 where
  by : (c : Clause) (x : List ℕ) → Stands c cs → ((b : ℕ) → Has c.body b → Accepts cs b (body_word c ++ x)) → Accepts cs c.head (under c.symbol x)
