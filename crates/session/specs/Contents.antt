-- The whole content of a session's tables, the unused places and symbols too, by its ledger.
use Rattle.std.specs.Prelude.{◌≡◌, ℕ, ◌-◌, List, [], ◌++◌, map, length, replicate}
use Rattle.question.specs.declared.row.Row.{Row}
use Rattle.question.specs.declared.rule.Rule.{Rule as Held}
use Rattle.session.specs.declared.session.Session.{Session}
use Rattle.session.specs.Limits.{side_limit, word_limit, rule_places, heard_places}
use Rattle.question.specs.Runs.{Word, Rule, no_rule}
use Rattle.session.specs.Sessions.{ledger}

-- A place for a word: a length, and all its symbols.
pub record Place : Type 0 where
  pub len : ℕ
  pub symbols : List ℕ

abbrev pub place_of : {N : ℕ} → Row N → Place
place_of row = record { len = row.len; symbols = row.symbols }

-- The place of n symbols with the word w: those after it are 0.
abbrev pub written : ℕ → Word → Place
written n w = record { len = length w; symbols = w ++ replicate (n - length w) 0 }

-- A place for a rule.
pub record RulePlace : Type 0 where
  pub from : ℕ
  pub left : Place
  pub to : ℕ
  pub right : Place

abbrev pub rule_place_of : Held → RulePlace
rule_place_of r = record { from = r.from; left = place_of r.left; to = r.to; right = place_of r.right }

-- The place with the rule r.
abbrev pub put_down : Rule → RulePlace
put_down r = record { from = r.from; left = written side_limit r.left; to = r.to; right = written side_limit r.right }

-- The content of both tables is that of the ledger: its words and rules from place 0 on, and then blank places.
pub record Content {O P : Type 0} (s : Session O P) : Type 0 where
  pub words_count : s.heard.count ≡ length (ledger s).heard
  pub words : map place_of s.heard.rows.places ≡ map (written word_limit) (ledger s).heard ++ replicate (heard_places - length (ledger s).heard) (written word_limit [])
  pub rules_count : s.rules.count ≡ length (ledger s).rules
  pub rules : map rule_place_of s.rules.rows.places ≡ map put_down (ledger s).rules ++ replicate (rule_places - length (ledger s).rules) (put_down no_rule)
