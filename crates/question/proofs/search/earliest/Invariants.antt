use Rattle.std.proofs.Common.{◌<◌, [], ◌∷◌, length}
use Rattle.question.specs.Feasible.{Servable}
use Rattle.question.specs.Runs.{Climb}
use Rattle.question.specs.Rules.{rules_of}
use Rattle.question.specs.Search.{ShortRise}
use Rattle.question.proofs.Nest.{Clear}
use Rattle.question.proofs.search.earliest.Given as goal

-- No shorter climb serves.
abbrev pub invariant-loop-n : goal.invariant-loop-n
invariant-loop-n g l = (c : Climb) → length c < l.n → ShortRise (rules_of l.rules) l.stage l.goal (Servable (rules_of l.rules) (g.Q.Pool.words l.pool)) c → ⊥

-- After the numbers chosen so far, no lower number leads to a climb of n rules that serves.

abbrev pub invariant-loop-a : goal.invariant-loop-a
invariant-loop-a g l = Clear (rules_of l.rules) l.goal (Servable (rules_of l.rules) (g.Q.Pool.words l.pool)) l.n [] l.stage l.a

abbrev pub invariant-loop-b : goal.invariant-loop-b
invariant-loop-b g l = Clear (rules_of l.rules) l.goal (Servable (rules_of l.rules) (g.Q.Pool.words l.pool)) l.n (l.a ∷ []) l.p l.b

abbrev pub invariant-loop-c : goal.invariant-loop-c
invariant-loop-c g l = Clear (rules_of l.rules) l.goal (Servable (rules_of l.rules) (g.Q.Pool.words l.pool)) l.n (l.a ∷ l.b ∷ []) l.q l.c

abbrev pub invariant-loop-d : goal.invariant-loop-d
invariant-loop-d g l = Clear (rules_of l.rules) l.goal (Servable (rules_of l.rules) (g.Q.Pool.words l.pool)) l.n (l.a ∷ l.b ∷ l.c ∷ []) l.s l.d
