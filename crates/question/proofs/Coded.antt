-- Rule number k of the code stands for rule number k.
use Rattle.std.proofs.Common.{◌≡◌, ℕ, ◌<◌, List, length, get_or, sym, ap, ◌∙◌}
use Rattle.std.proofs.lemmas.List.{get_or-map}
use Rattle.question.specs.Runs.{rule, no_rule}
use Rattle.question.specs.Rules.{rule_of, rules_of}
use Rattle.question.specs.declared.rule.Rule.{Rule as Held}

pub rule_at : (rules : List Held) (k : ℕ) (r : Held) → k < length rules → r ≡ get_or rules k r → rule (rules_of rules) k ≡ rule_of r
rule_at rules k r listed is = get_or-map rule_of rules k r no_rule listed ∙ ap rule_of (sym is)
