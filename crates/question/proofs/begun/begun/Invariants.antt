use Rattle.std.proofs.Common.{◌≡◌, length}
use Rattle.question.specs.Rises.{kept, beginnings, begun}
use Rattle.question.specs.Rules.{rules_of, words_of}
use Rattle.question.proofs.Stayers.{left_from}
use Rattle.question.proofs.begun.begun.Given as goal

-- what is left to keep gives the whole
abbrev pub invariant-loop-rule : goal.invariant-loop-rule
invariant-loop-rule l =
    (goal.iterator-loop-rule).can_next l.rule-iterator
    × (goal.iterator-loop-rule).is_finite l.rule-iterator
    × (kept (words_of l.words.items) (left_from (λ r. beginnings r.left) l.fn.stage l.fn.rules (length l.yielded)) ≡ begun (rules_of l.fn.rules) l.fn.stage)
