use Rattle.std.proofs.Common.{◌≡◌, ◌++◌}
use Rattle.question.specs.Rules.{rules_of}
use Rattle.question.specs.Bits.{bits_of, bits}
use Rattle.question.proofs.Puts.{stages_from}
use Rattle.question.proofs.bits.Bits.of.Given as goal

-- with what is left to put, the table is whole
abbrev pub invariant-loop-i : goal.invariant-loop-i
invariant-loop-i l = bits_of l.table ++ stages_from (rules_of l.rules) l.climb l.i ≡ bits (rules_of l.rules) l.climb
