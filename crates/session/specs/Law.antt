-- The law over a history of calls.
use Rattle.std.specs.Prelude.{◌≡◌, ℕ, zero, suc, ◌<◌, ◌≤◌, ◌≢◌, List, [], ◌∷◌, map, length}
use Rattle.question.specs.Runs.{Word, Rule, Climb}
use Rattle.session.specs.Calls.{Lent, Call, admit, hear, ask, Answer, numbered, new, out_of_reach, in_reach}
use Rattle.session.specs.Ledger.{Ledger, fresh, OutOfReach, InReach, Serves}

-- A call that was made, what it answered, and the ledger after it. A history is a list of these, in the order of the calls.
pub record Entry : Type 0 where
  pub call : Call
  pub answer : Answer
  pub after : Ledger

-- The ledger after the first n calls of a history that began with L; after all of them, if there are fewer.
abbrev pub ledger_after : ℕ → Ledger → List Entry → Ledger
ledger_after zero L es = L
ledger_after (suc n) L [] = L
ledger_after (suc n) L (e ∷ es) = ledger_after n e.after es

-- The stage after the first n calls, of a session that was just made.
abbrev pub stage_after : ℕ → List Entry → ℕ
stage_after n es = (ledger_after n fresh es).stage

-- X holds of entry number n, the call that was made after the first n calls.
abbrev pub At : ℕ → (Entry → Type 0) → List Entry → Type 0
At n X [] = ⊥
At zero X (e ∷ es) = X e
At (suc n) X (e ∷ es) = At n X es

-- An ask called the goal out of reach.
pub data Denies (goal : ℕ) : Entry → Type 0 where
  denied : {lent : Lent} {M : Ledger} → Denies goal (record { call = ask goal lent; answer = out_of_reach; after = M })

-- An ask called the goal in reach, and told the climb c.
pub data Tells (goal : ℕ) (c : Climb) : Entry → Type 0 where
  told : {lent : Lent} {M : Ledger} → Tells goal c (record { call = ask goal lent; answer = in_reach c; after = M })

-- A rule was admitted, or a hear answered new.
pub data Adds : Entry → Type 0 where
  admitted : {r : Rule} {n : ℕ} {M : Ledger} → Adds (record { call = admit r; answer = numbered n; after = M })
  heard_new : {w : Word} {M : Ledger} → Adds (record { call = hear w; answer = new; after = M })

module _ (size : ℕ) (above : ℕ → ℕ → Type 0) (W : Word → Type 0) where
  -- Each call is served on the ledger that the call before it left, the first on L.
  abbrev pub Follows : Ledger → List Entry → Type 0
  Follows L [] = Unit {0}
  Follows L (e ∷ es) = Serves size above W L e.call e.answer e.after × Follows e.after es

  -- The law over the history of a session that was just made.
  pub record Lawful (es : List Entry) : Type 0 where
    -- Every answer, every refusal, and the stage, the rules and the words after every call are the ledger's.
    pub follows : Follows fresh es
    -- Where an ask said out of reach, no run from the stage and the pool of that moment ended at the goal.
    pub truly_out : (i goal : ℕ) → At i (Denies goal) es → OutOfReach W (ledger_after i fresh es) goal
    -- Where it said in reach, some such run ended there with exactly the climb told, and none with an earlier one.
    pub truly_in : (i goal : ℕ) (c : Climb) → At i (Tells goal c) es → InReach W (ledger_after i fresh es) goal c
    -- A stage that was left for another never comes again.
    pub never_back : (i j k : ℕ) → i ≤ j → j ≤ k →
        stage_after j es ≢ stage_after i es → stage_after k es ≢ stage_after i es
    -- Nor does a stage that entry i called out of reach, unless a later entry added a rule or a word.
    pub stays_out : (i k goal : ℕ) → At i (Denies goal) es → i < k →
        ((j : ℕ) → i < j → j < k → At j Adds es → ⊥) → stage_after k es ≢ goal

  -- A session that was just made was given these calls one after another. It answered this, and now has the ledger M.
  pub record History (calls : List Call) (answers : List Answer) (M : Ledger) : Type 0 where
    pub entries : List Entry
    pub called : map (λ e. e.call) entries ≡ calls
    pub answered : map (λ e. e.answer) entries ≡ answers
    pub ends : ledger_after (length entries) fresh entries ≡ M
    pub lawful : Lawful entries
