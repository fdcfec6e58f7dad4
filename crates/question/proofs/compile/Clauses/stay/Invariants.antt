use Rattle.std.proofs.Common.{◌*◌, length}
use Rattle.std.specs.List.{flat_map}
use Rattle.question.specs.Horns.{by_staying}
use Rattle.question.specs.Rules.{rule_of}
use Rattle.question.specs.Bits.{bits_of}
use Rattle.question.specs.Coding.{clauses_of, Adds}
use Rattle.question.proofs.compile.Clauses.stay.Given as goal

abbrev pub invariant-loop-rule : goal.invariant-loop-rule
invariant-loop-rule l =
    (goal.iterator-loop-rule).can_next l.rule-iterator
    × (goal.iterator-loop-rule).is_finite l.rule-iterator
    × Adds (bits_of l.plan.bits.now) (4 * length l.yielded) (flat_map (λ r. by_staying l.i l.j (rule_of r.now)) l.yielded) (clauses_of l.initial.self) (clauses_of l.self)
