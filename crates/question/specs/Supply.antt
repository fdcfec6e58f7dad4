-- When a word of the pool can come to be used by a rule of a climb.
use Rattle.std.specs.Prelude.{◌≡◌, ℕ, suc, ◌<◌, ◌≤◌, List, length, slice_index}
use Rattle.question.specs.Runs.{Word, Rule, Makes, Pool, Climb, rule, Leads}
use Rattle.question.specs.Rises.{changing, stage}

-- The suppliers of a climb's rules, in a list: at k stands 0 if rule k takes its word from the pool, and suc j if it takes the word that rule j made.
abbrev pub supplied_by : List ℕ → ℕ → ℕ
supplied_by suppliers k = slice_index suppliers k

module _ (rules : List Rule) (climb : Climb) where
  -- `Fits supplier i j w`: a word w in the pool at stage i of the climb can come to be used by rule j, and what rule j makes of it can then
  -- come to be used by each rule that j supplies.
  pub data Fits (supplier : ℕ → ℕ) : ℕ → ℕ → Word → Type 0 where
    -- a staying rule of stage i makes w of v, and w fits
    stay : {i j k : ℕ} {v w : Word} → Leads rules k (stage rules climb i) (stage rules climb i) → Makes (rule rules k) v w → Fits supplier i j w → Fits supplier i j v
    -- the word waits for the next stage
    wait : {i j : ℕ} {w : Word} → i < j → Fits supplier (suc i) j w → Fits supplier i j w
    -- rule j makes w of v, and w fits each rule k that j supplies
    apply : {j : ℕ} {v w : Word} → Makes (changing rules climb j) v w →
        ((k : ℕ) → j < k → k < length climb → supplier k ≡ suc j → Fits supplier (suc j) k w) → Fits supplier j j v

  -- Suppliers with which the pool serves the climb: there is one for each rule, it is the pool or an earlier rule, and for each rule that
  -- the pool supplies the pool has a word that fits.
  pub record Supplied (P : Word → Type 0) (added : List Word) (suppliers : List ℕ) : Type 0 where
    pub each : length suppliers ≡ length climb
    pub earlier : (j : ℕ) → supplied_by suppliers j ≤ j
    pub pooled : (j : ℕ) → j < length climb → supplied_by suppliers j ≡ 0 → (w : Word) × Pool P added w × Fits (supplied_by suppliers) 0 j w
