-- Clauses over the numbers of bits, and the clauses over bits that they stand for.
use Rattle.std.specs.Prelude.{◌≡◌, ℕ, suc, ◌+◌, ◌<◌, ◌≤◌, ◌↔◌, List, [], ◌∷◌, ◌++◌, map, length, Option, Some, None}
use Rattle.question.specs.Lists.{In}
use Rattle.question.specs.Runs.{Word, Rule, Climb}
use Rattle.question.specs.Supply.{supplied_by, Fits}
use Rattle.question.specs.Horns.{Bit, Horn}
use Rattle.question.specs.Bits.{place, bits_of, Tabled}
use Rattle.question.specs.Rules.{rules_of, Climbing}
use Rattle.question.specs.Accepts.{Has, body_word, Accepts}
use Rattle.question.specs.declared.bits.Bits.{Bits}
use Rattle.question.specs.declared.clause.Clause.{Clause}
use Rattle.question.specs.declared.compile.Clauses.{Clauses}
use Rattle.question.specs.declared.rule.Rule.{Rule as Held}

-- The clauses are those of the climb with these suppliers: the bit j accepts the words that fit rule j from the start, and no other.
abbrev pub Right : List Rule → Climb → List ℕ → List Clause → Type 0
Right rules climb suppliers cs = (j : ℕ) → j < length climb → (w : Word) → Accepts cs j w ↔ Fits rules climb (supplied_by suppliers) 0 j w

-- A climb can be compiled: its rules are there, it has a supplier for each, and the table has its bits.
pub record Ready (table : Bits) (rules : List Held) (climb : Climb) (suppliers : List ℕ) : Type 0 where
  pub climbing : Climbing rules climb
  pub each : length suppliers ≡ length climb
  pub tabled : Tabled (rules_of rules) climb table

-- The number of a supplier of the code: 0 for the pool, and suc j for rule j.
abbrev pub supplier_of : Option ℕ → ℕ
supplier_of None = 0
supplier_of (Some j) = suc j

-- The same, of each.
abbrev pub suppliers_of : List (Option ℕ) → List ℕ
suppliers_of suppliers = map supplier_of suppliers

-- The clauses that a value of the code holds.
abbrev pub clauses_of : Clauses → List Clause
clauses_of cs = cs.items.items

-- The bits are those of `all`, and the number of a bit is its place there.
module _ (all : List Bit) where
  -- The set has the numbers of the bits bs.
  abbrev pub SetOf : List Bit → ℕ → Type 0
  SetOf bs set = (m : ℕ) → Has set m ↔ ((b : Bit) × In b bs × (m ≡ place b all))

  -- These are the parts of the clause h, with numbers for its bits.
  pub record Codes (h : Horn) (head : ℕ) (symbol : Option ℕ) (word : Word) (body : ℕ) : Type 0 where
    pub head_is : head ≡ place h.head all
    pub symbol_is : symbol ≡ h.symbol
    pub word_is : word ≡ h.word
    pub body_is : SetOf h.body body

  -- The clause c is h with numbers for its bits.
  abbrev pub Coded : Horn → Clause → Type 0
  Coded h c = Codes h c.head c.symbol (body_word c) c.body

  -- The clauses cs are hs, one by one, with numbers for their bits.
  pub data Coding : List Horn → List Clause → Type 0 where
    none : Coding [] []
    next : {h : Horn} {c : Clause} {hs : List Horn} {cs : List Clause} → Coded h c → Coding hs cs → Coding (h ∷ hs) (c ∷ cs)

  -- Where `before` has the clauses `done`, `after` has those and hs.
  abbrev pub Appends : List Horn → List Clause → List Clause → Type 0
  Appends hs before after = (done : List Horn) → Coding done before → Coding (done ++ hs) after

  -- The clauses hs were added, which are at most `most`.
  pub record Adds (most : ℕ) (hs : List Horn) (before after : List Clause) : Type 0 where
    pub coded : Appends hs before after
    pub few : length after ≤ length before + most

-- The same, of a table of bits and of clauses that the code holds.
abbrev pub Added : Bits → ℕ → List Horn → Clauses → Clauses → Type 0
Added table most hs before after = Adds (bits_of table) most hs (clauses_of before) (clauses_of after)
