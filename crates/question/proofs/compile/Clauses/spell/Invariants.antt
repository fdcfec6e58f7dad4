use Rattle.question.specs.Rows.{held}
use Rattle.question.specs.Bits.{bits_of}
use Rattle.question.specs.Coding.{clauses_of}
use Rattle.question.proofs.Spelling.{Spelling}
use Rattle.question.proofs.compile.Clauses.spell.Given as goal

abbrev pub invariant-loop-m : goal.invariant-loop-m
invariant-loop-m l = Spelling (bits_of l.bits) l.at l.goal l.word (held l.rule.right) (clauses_of l.initial.self) l.m (clauses_of l.self)
