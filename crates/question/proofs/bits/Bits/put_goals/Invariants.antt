use Rattle.std.proofs.Common.{◌≡◌, ◌++◌}
use Rattle.question.specs.Rows.{held}
use Rattle.question.specs.Bits.{bits_of, bits_for}
use Rattle.question.proofs.Puts.{goals_from}
use Rattle.question.proofs.bits.Bits.put_goals.Given as goal

-- with what is left to put, the table is whole
abbrev pub invariant-loop-goal : goal.invariant-loop-goal
invariant-loop-goal l = bits_of l.self ++ goals_from l.at l.n (held l.word) l.goal ≡ bits_of l.initial.self ++ bits_for l.at l.n (held l.word)
