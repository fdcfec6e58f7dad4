use Rattle.std.proofs.Common.{length}
use Rattle.question.specs.Rules.{rules_of}
use Rattle.question.proofs.Deciders.{Serving}
use Rattle.question.proofs.Ways.{NoneBelow}
use Rattle.question.proofs.feasible.feasible.Given as goal

abbrev pub invariant-loop-way : goal.invariant-loop-way
invariant-loop-way g l = NoneBelow (Serving (rules_of l.rules) (g.Q.Pool.words l.pool) l.climb) (length l.climb) l.way
