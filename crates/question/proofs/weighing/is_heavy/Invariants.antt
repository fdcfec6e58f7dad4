use Rattle.std.proofs.Common.{◌+◌}
use Rattle.question.specs.Rounds.{heaviest}
use Rattle.question.specs.Rules.{rules_of}
use Rattle.question.specs.Weighing.{Shows}
use Rattle.question.proofs.Weighed.{Light}
use Rattle.question.proofs.weighing.is_heavy.Given as goal

-- the weights of rises of n rules; and no round so far has found one that is too heavy
abbrev pub invariant-loop-n : goal.invariant-loop-n
invariant-loop-n l = Shows (heaviest (rules_of l.rules) l.goal l.n) l.weights × Light (rules_of l.rules) l.stage l.goal (l.n + 1)
