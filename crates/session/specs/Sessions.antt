-- What a session stands for, and what its calls promise.
use Rattle.std.specs.Prelude.{◌≡◌, ℕ, ◌<◌, List, map, length, take, Ok, Err, Result}
use Rattle.std.specs.declared.default.Default.{Ghosts}
use Rattle.model.specs.declared.orders.Order.{Ghosts as OrderMeaning}
use Rattle.model.specs.declared.pools.Pool.{Ghosts as PoolMeaning}
use Rattle.question.specs.declared.row.Row.{Row}
use Rattle.question.specs.declared.rule.Rule.{Rule as Held}
use Rattle.session.specs.declared.fault.Fault.{Fault}
use Rattle.session.specs.declared.fault.Fault.TheVariants.{HeardFull}
use Rattle.session.specs.declared.session.News.{News}
use Rattle.session.specs.declared.session.News.TheVariants.{Known, New}
use Rattle.session.specs.declared.session.Reach.{Reach}
use Rattle.session.specs.declared.session.Reach.TheVariants.{Out, In}
use Rattle.session.specs.declared.session.Session.{Session}
use Rattle.session.specs.declared.table.Table.{Table}
use Rattle.session.specs.Limits.{word_limit, rule_places, heard_places}
use Rattle.session.specs.Tables.{items}
use Rattle.question.specs.Rows.{held}
use Rattle.question.specs.Rules.{rules_of}
use Rattle.question.specs.Runs.{Word, Rule}
use Rattle.session.specs.Calls.{Lent, Call, ask, Answer, refused, known, new, out_of_reach, in_reach, after_ask}
use Rattle.session.specs.Ledger.{Ledger, with_word, InPool, HasPlace, Serves}

-- The words of the heard table.
abbrev pub words_in : {Blank : Ghosts (Row word_limit)} → Table (Row word_limit) heard_places Blank → List Word
words_in heard = map held (items heard)

-- The rules of the table of rules.
abbrev pub rules_in : {Blank : Ghosts Held} → Table Held rule_places Blank → List Rule
rules_in rules = rules_of (items rules)

-- The ledger that a session stands for.
abbrev pub ledger : {O P : Type 0} → Session O P → Ledger
ledger s = record { stage = s.stage; rules = rules_in s.rules; heard = words_in s.heard }

-- The answer that a call's result stands for.
abbrev pub answer : {A : Type 0} → (A → Answer) → Result A Fault → Answer
answer f (Ok a) = f a
answer f (Err fault) = refused fault

abbrev pub news : News → Answer
news Known = known
news New = new

-- In reach: the climb is told by the first bytes of the list.
abbrev pub reach : List ℕ → Reach → Answer
reach list Out = out_of_reach
reach list (In n) = in_reach (take n list)

-- W has the words of the given pool.
module _ (W : Word → Type 0) (L : Ledger) where
  -- `Notes w r M`: a word is stored if the pool lacks it, and that leaves the ledger M.
  pub data Notes (w : Word) : Result News Fault → Ledger → Type 0 where
    is_known : InPool W L w → Notes w (Ok Known) L
    is_new : (InPool W L w → ⊥) → length L.heard < heard_places → Notes w (Ok New) (with_word w L)
    no_place : (HasPlace W L w → ⊥) → Notes w (Err HeardFull) L

-- The order and the pool of the session s are those of t.
pub record Kept {O P : Type 0} (s t : Session O P) : Type 0 where
  pub order : t.order ≡ s.order
  pub pool : t.pool ≡ s.pool

-- The call, made on the session s, answers this and leaves the session t: its ledger is served, and its order and pool are kept.
pub record Served {O P : Type 0} (order : OrderMeaning O) (pool : PoolMeaning P) (s : Session O P) (call : Call) (a : Answer) (t : Session O P) : Type 0 where
  pub kept : Kept s t
  pub serves : Serves (order.stages s.order) (order.above s.order) (pool.words s.pool) (ledger s) call a (ledger t)

-- An ask on the session s answers this, and leaves this in what it was lent.
pub record Asked {O P : Type 0} (order : OrderMeaning O) (pool : PoolMeaning P) (s : Session O P) (goal : ℕ) (lent : Lent) (r : Result Reach Fault) (after : Lent) : Type 0 where
  pub serves : Serves (order.stages s.order) (order.above s.order) (pool.words s.pool) (ledger s) (ask goal lent) (answer (reach after.list) r) (ledger s)
  pub left : after ≡ after_ask (answer (reach after.list) r) lent
