-- Words, rules, pools, steps and runs.
use Rattle.std.specs.Prelude.{◌≡◌, ℕ, ◌<◌, ◌≢◌, ◌⊎◌, List, [], ◌∷◌, ◌++◌, length, slice_index_or}

-- A word is a list of symbols, the outermost first.
abbrev pub Word : Type 0
Word = List ℕ

-- At the stage `from`, a word `left ++ t` in the pool gives the word `right ++ t`, and the stage becomes `to`.
pub record Rule : Type 0 where
  pub from : ℕ
  pub left : Word
  pub to : ℕ
  pub right : Word

-- The rule r makes the word w out of the word v: v begins with the left side, and w has the right side in its place.
pub record Makes (r : Rule) (v w : Word) : Type 0 where
  pub rest : Word
  pub before : v ≡ r.left ++ rest
  pub after : w ≡ r.right ++ rest

-- The words of a pool: those of P, the pool that is given, and those that were added to it, the last one first.
abbrev pub Pool : (Word → Type 0) → List Word → Word → Type 0
Pool P [] w = P w
Pool P (new ∷ added) w = (w ≡ new) ⊎ Pool P added w

-- Each word of the first pool is in the second.
abbrev pub Within : (P : Word → Type 0) → List Word → (Q : Word → Type 0) → List Word → Type 0
Within P added Q more = (w : Word) → Pool P added w → Pool Q more w

-- The numbers of the changing rules of a run, in order.
abbrev pub Climb : Type 0
Climb = List ℕ

-- Only there to make `rule` total: `Leads` asks for a number in the list.
abbrev pub no_rule : Rule
no_rule = record { from = 0; left = []; to = 0; right = [] }

module _ (rules : List Rule) where
  -- Rule number k, counted from 0.
  abbrev pub rule : ℕ → Rule
  rule k = slice_index_or rules k no_rule

  -- Rule number k is there, and leads from the stage p to the stage q.
  pub record Leads (k p q : ℕ) : Type 0 where
    pub listed : k < length rules
    pub from : (rule k).from ≡ p
    pub to : (rule k).to ≡ q

  module _ (P : Word → Type 0) where
    -- A step by rule number k from the stage p to the stage q: it finds the word `old` in the pool and adds the word `new`.
    -- No word ever leaves the pool.
    pub record Step (k p q : ℕ) (added : List Word) (new : Word) : Type 0 where
      pub leads : Leads k p q
      pub old : Word
      pub found : Pool P added old
      pub makes : Makes (rule k) old new

    -- `Run p added c q more`: zero or more steps from the stage p and the pool with the words `added` to the stage q and
    -- the pool with the words `more`. The climb c has the number of each step that changes the stage.
    pub data Run : ℕ → List Word → Climb → ℕ → List Word → Type 0 where
      done : {p : ℕ} {added : List Word} → Run p added [] p added
      stay : {k p q : ℕ} {added more : List Word} {new : Word} {c : Climb} →
          Step k p p added new → Run p (new ∷ added) c q more → Run p added c q more
      rise : {k p q g : ℕ} {added more : List Word} {new : Word} {c : Climb} →
          Step k p q added new → p ≢ q → Run q (new ∷ added) c g more → Run p added (k ∷ c) g more

    -- Some run with the climb c ends at the stage g.
    abbrev pub Reaches : ℕ → List Word → Climb → ℕ → Type 0
    Reaches p added c g = (more : List Word) × Run p added c g more

    -- No run ends at the stage g.
    abbrev pub Out : ℕ → List Word → ℕ → Type 0
    Out p added g = (c : Climb) → Reaches p added c g → ⊥
