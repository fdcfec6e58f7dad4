use Rattle.std.proofs.Common.{◌≡◌}
use Rattle.question.proofs.Turns.{Sweep, SettlesAt}
use Rattle.question.proofs.table.Table.update.Given as goal

-- if no cell changed so far, the clauses before this one add no bit
abbrev pub invariant-loop-clause : goal.invariant-loop-clause
invariant-loop-clause l = Sweep (◌≡◌ l.clauses) (SettlesAt l.clauses l.mark.bits) l.initial.self l.clause-index l.self l.changed
