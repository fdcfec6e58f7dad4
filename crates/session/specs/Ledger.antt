-- The ledger of a session: the checks of each call in their order, what an accepted call answers, and what it leaves.
use Rattle.std.specs.Prelude.{◌≡◌, ℕ, ◌<◌, ◌≤◌, ◌⊎◌, List, [], ◌∷◌, ◌++◌, length, drop}
use Rattle.model.specs.Symbols.{Symbols}
use Rattle.session.specs.declared.fault.Fault.{Fault}
use Rattle.session.specs.declared.fault.Fault.TheVariants.{NoSuchStage, SymbolTooHigh, TooLong, Falls, BufferShort, RulesFull, HeardFull, NoSuchRule, OtherStage, NotInPool, OtherBeginning, ResultTooLong, TooHeavy}
use Rattle.session.specs.Limits.{side_limit, word_limit, rule_places, heard_places, cells_used, list_used}
use Rattle.question.specs.Runs.{Word, Rule, Pool, Climb, rule}
use Rattle.question.specs.Rises.{Rise, weight, weight_limit}
use Rattle.question.specs.Verdicts.{Verdict.out, Verdict.in_by, Means}
use Rattle.session.specs.Calls.{Lent, Call, admit, hear, fire, ask, Answer, refused, numbered, known, new, stands_at, out_of_reach, in_reach}
use Rattle.session.specs.Checks.{Check, ◌unless◌, Passed, RefusedBy}

-- The stage, the rules and the heard words. The rules and the words are in the order in which they came.
pub record Ledger : Type 0 where
  pub stage : ℕ
  pub rules : List Rule
  pub heard : List Word

-- The ledger of a session that was just made.
abbrev pub fresh : Ledger
fresh = record { stage = 0; rules = []; heard = [] }

-- The ledger L at another stage.
abbrev pub at_stage : ℕ → Ledger → Ledger
at_stage q L = record { stage = q; rules = L.rules; heard = L.heard }

-- The ledger L with one more rule.
abbrev pub with_rule : Rule → Ledger → Ledger
with_rule r L = record { stage = L.stage; rules = L.rules ++ r ∷ []; heard = L.heard }

-- The ledger L with one more heard word.
abbrev pub with_word : Word → Ledger → Ledger
with_word w L = record { stage = L.stage; rules = L.rules; heard = L.heard ++ w ∷ [] }

-- The word w begins with the left side.
abbrev pub BeginsWith : Word → Word → Type 0
BeginsWith left w = (rest : Word) × (w ≡ left ++ rest)

-- The word that the rule r makes of a word w that begins with its left side.
abbrev pub made_by : Rule → Word → Word
made_by r w = r.right ++ drop (length r.left) w

-- No rise from the stage to the goal is too heavy.
abbrev pub Light : Ledger → ℕ → Type 0
Light L goal = (c : Climb) → Rise L.rules L.stage c goal → weight L.rules c ≤ weight_limit

-- W has the words of the given pool.
module _ (W : Word → Type 0) (L : Ledger) where
  -- The word is a given one or a heard one. (The order of the heard words says nothing.)
  abbrev pub InPool : Word → Type 0
  InPool = Pool W L.heard

  -- The word is in the pool, or a place for heard words is free.
  abbrev pub HasPlace : Word → Type 0
  HasPlace w = InPool w ⊎ (length L.heard < heard_places)

  -- No run from the stage and the pool ends at the goal.
  abbrev pub OutOfReach : ℕ → Type 0
  OutOfReach goal = Means L.rules W L.stage L.heard goal out

  -- Some run from the stage and the pool ends at the goal with the climb c, and none with an earlier one.
  abbrev pub InReach : ℕ → Climb → Type 0
  InReach goal c = Means L.rules W L.stage L.heard goal (in_by c)

  -- `Does call answer M`: a call that passes its checks answers this, and leaves the ledger M.
  pub data Does : Call → Answer → Ledger → Type 0 where
    -- the rule comes last; its number is how many there were
    admits : {r : Rule} → Does (admit r) (numbered (length L.rules)) (with_rule r L)
    -- a heard word that the pool lacks comes last
    hears_known : {w : Word} → InPool w → Does (hear w) known L
    hears_new : {w : Word} → (InPool w → ⊥) → Does (hear w) new (with_word w L)
    -- the stage becomes that of the rule; a resulting word that the pool lacks comes last
    fires_known : {k : ℕ} {w : Word} → InPool (made_by (rule L.rules k) w) →
        Does (fire k w) (stands_at (rule L.rules k).to) (at_stage (rule L.rules k).to L)
    fires_new : {k : ℕ} {w : Word} → (InPool (made_by (rule L.rules k) w) → ⊥) →
        Does (fire k w) (stands_at (rule L.rules k).to) (at_stage (rule L.rules k).to (with_word (made_by (rule L.rules k) w) L))
    -- an ask changes nothing
    denies : {goal : ℕ} {lent : Lent} → OutOfReach goal → Does (ask goal lent) out_of_reach L
    tells : {goal : ℕ} {lent : Lent} {c : Climb} → InReach goal c → Does (ask goal lent) (in_reach c) L

-- The checks of a word.
abbrev pub word_checks : Word → List Check
word_checks w = TooLong unless (length w ≤ word_limit) ∷ SymbolTooHigh unless (Symbols w) ∷ []

-- The check of a rule's stages, in an order of so many.
abbrev pub stage_checks : ℕ → ℕ → ℕ → List Check
stage_checks size from to = NoSuchStage unless ((from < size) × (to < size)) ∷ []

-- The checks of a rule's sides.
abbrev pub side_checks : Word → Word → List Check
side_checks left right =
    TooLong unless ((length left ≤ side_limit) × (length right ≤ side_limit))
    ∷ SymbolTooHigh unless (Symbols left × Symbols right)
    ∷ []

-- The checks of what the rule r makes of the word w.
abbrev pub result_checks : Rule → Word → List Check
result_checks r w =
    OtherBeginning unless (BeginsWith r.left w)
    ∷ ResultTooLong unless (length (made_by r w) ≤ word_limit)
    ∷ []

module _ (W : Word → Type 0) (L : Ledger) where
  -- The checks of a fire of rule number k on the word w, before the word is rewritten.
  abbrev pub ready_checks : ℕ → Word → List Check
  ready_checks k w =
      NoSuchRule unless (k < length L.rules)
      ∷ OtherStage unless ((rule L.rules k).from ≡ L.stage)
      ∷ NotInPool unless (InPool W L w)
      ∷ []

-- The order has the stages 0 to size - 1, and `above b a` says that b stands at or above a.
module _ (size : ℕ) (above : ℕ → ℕ → Type 0) (W : Word → Type 0) (L : Ledger) where
  -- The checks of each call, in their order. By number: admit 5, 7, 6, 8, 10; hear 7, 6, 11; fire 7, 6, 12, 13, 14, 15, 16, 11; ask 5, 9, 17.
  abbrev pub checks : Call → List Check
  checks (admit r) =
      stage_checks size r.from r.to
      ++ side_checks r.left r.right
      ++ Falls unless (above r.to r.from)
      ∷ RulesFull unless (length L.rules < rule_places)
      ∷ []
  checks (hear w) =
      word_checks w
      ++ HeardFull unless (HasPlace W L w)
      ∷ []
  checks (fire k w) =
      word_checks w
      ++ ready_checks W L k w
      ++ result_checks (rule L.rules k) w
      ++ HeardFull unless (HasPlace W L (made_by (rule L.rules k) w))
      ∷ []
  checks (ask goal lent) =
      NoSuchStage unless (goal < size)
      ∷ BufferShort unless ((cells_used ≤ length lent.cells) × (list_used ≤ length lent.list))
      ∷ TooHeavy unless (Light L goal)
      ∷ []

  -- `Serves call answer M`: the call, made on the ledger L, answers this and leaves the ledger M. A refused call changes nothing.
  pub data Serves : Call → Answer → Ledger → Type 0 where
    refuses : {call : Call} {f : Fault} → RefusedBy f (checks call) → Serves call (refused f) L
    accepts : {call : Call} {a : Answer} {M : Ledger} → Passed (checks call) → Does W L call a M → Serves call a M
