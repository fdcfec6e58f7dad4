use Rattle.std.proofs.Common.{◌+◌, ◌-◌, ◌*◌, []}
use Rattle.question.specs.Horns.{horns}
use Rattle.question.specs.Bits.{bits_of}
use Rattle.question.specs.Coding.{clauses_of}
use Rattle.question.specs.Plans.{rules_in, supplier_in}
use Rattle.question.proofs.Adding.{Adding}
use Rattle.question.proofs.Pairs.{horns_from, pairs_from}
use Rattle.question.proofs.compile.Clauses.fill.Given as goal

abbrev pub invariant-loop-i : goal.invariant-loop-i
invariant-loop-i l =
    Adding (bits_of l.plan.bits.now) (horns (rules_in l.plan) l.plan.climb.now (supplier_in l.plan)) [] (horns_from (rules_in l.plan) l.plan.climb.now (supplier_in l.plan) l.i)
    (528 * l.i) (clauses_of l.self)

abbrev pub invariant-loop-j : goal.invariant-loop-j
invariant-loop-j l =
    Adding (bits_of l.plan.bits.now) (horns (rules_in l.plan) l.plan.climb.now (supplier_in l.plan)) [] (pairs_from (rules_in l.plan) l.plan.climb.now (supplier_in l.plan) l.i l.j)
    (528 * l.i + 132 * (l.j - l.i)) (clauses_of l.self)
