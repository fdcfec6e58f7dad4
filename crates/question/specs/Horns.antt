-- The clauses of a climb with suppliers, over bits that say what they mean, and the words that they accept.
use Rattle.std.specs.Prelude.{ℕ, suc, cond, List, [], ◌∷◌, ◌++◌, map, length, Some, None, filter, Option, nat_eq, nat_lt}
use Rattle.std.specs.List.{flat_map}
use Rattle.question.specs.Lists.{In, numbers, between}
use Rattle.question.specs.Runs.{Word, Rule, Climb}
use Rattle.question.specs.Rises.{changing, stage, staying}
use Rattle.question.specs.Accepts.{under}

-- A bit is a predicate on words x: the word begun·x, at the stage before rule `at` of the climb, fits rule `goal`.
pub record Bit : Type 0 where
  pub at : ℕ
  pub goal : ℕ
  pub begun : Word

abbrev pub bit : ℕ → ℕ → Word → Bit
bit i j u = record { at = i; goal = j; begun = u }

-- The bit of whole words.
abbrev pub base : ℕ → ℕ → Bit
base i j = bit i j []

-- The bit once one symbol more is read.
abbrev pub then_read : Bit → ℕ → Bit
then_read b a = bit b.at b.goal (b.begun ++ a ∷ [])

-- A clause says, of every word x: if each bit of `body` accepts word·x, then the bit `head` accepts symbol·x, or x itself where
-- there is no symbol.
pub record Horn : Type 0 where
  pub head : Bit
  pub symbol : Option ℕ
  pub word : Word
  pub body : List Bit

abbrev pub horn : Bit → Option ℕ → Word → List Bit → Horn
horn b s w bs = record { head = b; symbol = s; word = w; body = bs }

-- `Derives hs b x`: by the clauses hs, the bit b accepts the word x. It is the least relation that they allow.
pub data Derives (hs : List Horn) : Bit → Word → Type 0 where
  by : (h : Horn) (x : Word) → In h hs → ((b : Bit) → In b h.body → Derives hs b (h.word ++ x)) → Derives hs h.head (under h.symbol x)

-- Clauses that read a word symbol by symbol, from the bit b on, and then ask that each bit of bs accepts w·x.
abbrev pub spelled : Bit → Word → Word → List Bit → List Horn
spelled b [] w bs = horn b None w bs ∷ []
spelled b (a ∷ []) w bs = horn b (Some a) w bs ∷ []
spelled b (a ∷ c ∷ l) w bs = horn b (Some a) [] (then_read b a ∷ []) ∷ spelled (then_read b a) (c ∷ l) w bs

-- A rule that stays at stage i: base i j accepts left·x if it accepts right·x.
abbrev pub by_staying : ℕ → ℕ → Rule → List Horn
by_staying i j r = spelled (base i j) r.left r.right (base i j ∷ [])

-- The word waits for rule i to be applied to another: base i j accepts x if base (i + 1) j accepts x.
abbrev pub by_waiting : ℕ → ℕ → List Horn
by_waiting i j = horn (base i j) None [] (base (suc i) j ∷ []) ∷ []

-- Of n rules, those that rule j supplies.
abbrev pub supplied : (ℕ → ℕ) → ℕ → ℕ → List ℕ
supplied supplier n j = filter (λ k. nat_eq (supplier k) (suc j)) (between (suc j) n)

-- What rule j makes has to fit each of them.
abbrev pub served : (ℕ → ℕ) → ℕ → ℕ → List Bit
served supplier n j = map (base (suc j)) (supplied supplier n j)

-- Rule j is applied: base j j accepts left·x if each bit that it has to serve accepts right·x.
abbrev pub by_applying : ℕ → Rule → List Bit → List Horn
by_applying j r bs = spelled (base j j) r.left r.right bs

module _ (rules : List Rule) (climb : Climb) (supplier : ℕ → ℕ) where
  -- The clauses for base i j.
  abbrev pub horns_for : ℕ → ℕ → List Horn
  horns_for i j =
      flat_map (by_staying i j) (staying rules (stage rules climb i)) ++
      cond (nat_lt i j) (by_waiting i j) (by_applying j (changing rules climb j) (served supplier (length climb) j))

  -- Those for base i j with i ≤ j.
  abbrev pub horns_at : ℕ → List Horn
  horns_at i = flat_map (horns_for i) (between i (length climb))

  -- All of them.
  abbrev pub horns : List Horn
  horns = flat_map horns_at (numbers 0 (length climb))
