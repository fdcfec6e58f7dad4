-- What follows from the ledger, over any order and any given pool.
use Rattle.std.specs.Prelude.{◌≡◌, ℕ, ◌≤◌, ◌↔◌, List, [], ◌∷◌, ◌++◌, map, length}
use Rattle.session.specs.Limits.{word_limit}
use Rattle.question.specs.Runs.{Word, Pool, Step}
use Rattle.session.specs.Calls.{Call, fire, Answer, stands_at}
use Rattle.model.specs.Symbols.{Symbols}
use Rattle.session.specs.Ledger.{Ledger, fresh, InPool, HasPlace, Serves}
use Rattle.session.specs.Law.{Entry, Follows, Lawful, History}

module _ (W : Word → Type 0) where
  -- A step of a run from the stage and the pool of L to the stage q, by rule number k, which makes the word `made` out of the word w.
  pub record Steps (L : Ledger) (k : ℕ) (w : Word) (q : ℕ) (made : Word) : Type 0 where
    pub step : Step L.rules W k L.stage q L.heard made
    pub on : step.old ≡ w

  -- What a fire asks of such a step. Runs have no limits.
  pub record WithinLimits (L : Ledger) (w made : Word) : Type 0 where
    pub short : length w ≤ word_limit
    pub symbols : Symbols w
    pub made_short : length made ≤ word_limit
    pub place : HasPlace W L made

  -- M is what the step leaves of L: the stage q, the same rules, and the pool with the word made, as a set of words.
  pub record Stepped (L : Ledger) (q : ℕ) (made : Word) (M : Ledger) : Type 0 where
    pub stage : M.stage ≡ q
    pub rules : M.rules ≡ L.rules
    pub pool : (v : Word) → InPool W M v ↔ Pool W (made ∷ L.heard) v

module _ (size : ℕ) (above : ℕ → ℕ → Type 0) (W : Word → Type 0) where
  -- A history that follows the ledger from the start is lawful.
  abbrev pub LawHolds : Type 0
  LawHolds = (es : List Entry) → Follows size above W fresh es → Lawful size above W es

  -- The history of no call, and of one call more.
  pub record HistoryGoesOn : Type 0 where
    pub none : History size above W [] [] fresh
    pub more : (calls : List Call) (answers : List Answer) (L : Ledger) (call : Call) (a : Answer) (M : Ledger) →
        History size above W calls answers L → Serves size above W L call a M →
        History size above W (calls ++ call ∷ []) (answers ++ a ∷ []) M

  -- A call on a ledger has one outcome, and the calls alone settle the history.
  pub record OneOutcome : Type 0 where
    pub call : (L : Ledger) (call : Call) (a b : Answer) (M N : Ledger) →
        Serves size above W L call a M → Serves size above W L call b N → (a ≡ b) × (M ≡ N)
    pub history : (L : Ledger) (es fs : List Entry) →
        Follows size above W L es → Follows size above W L fs → map (λ e. e.call) es ≡ map (λ e. e.call) fs → es ≡ fs

  -- No call on a ledger is without an outcome.
  abbrev pub SomeOutcome : Type 0
  SomeOutcome = (L : Ledger) (call : Call) → ((a : Answer) (M : Ledger) → Serves size above W L call a M → ⊥) → ⊥

  -- A fire is a step of a run.
  pub record FireIsStep : Type 0 where
    -- An accepted fire is one step within the limits, to the stage that it answers, and leaves what the step leaves.
    pub fire_steps : (L : Ledger) (k : ℕ) (w : Word) (q : ℕ) (M : Ledger) → Serves size above W L (fire k w) (stands_at q) M →
        (made : Word) × Steps W L k w q made × WithinLimits W L w made × Stepped W L q made M
    -- Each step within the limits is an accepted fire, which answers its stage and leaves what the step leaves.
    -- `Dec`: it is known whether the pool has the word made, as a pool can say of each word.
    pub step_fires : (L : Ledger) (k : ℕ) (w : Word) (q : ℕ) (made : Word) → Steps W L k w q made → WithinLimits W L w made → Dec (InPool W L made) →
        (M : Ledger) × Serves size above W L (fire k w) (stands_at q) M × Stepped W L q made M
