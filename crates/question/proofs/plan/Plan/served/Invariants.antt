use Rattle.std.proofs.Common.{length}
use Rattle.question.specs.Supply.{supplied_by}
use Rattle.question.specs.Bits.{bits_of}
use Rattle.question.specs.Coding.{suppliers_of}
use Rattle.question.proofs.Serving.{Serving}
use Rattle.question.proofs.plan.Plan.served.Given as goal

abbrev pub invariant-loop-k : goal.invariant-loop-k
invariant-loop-k l = Serving (bits_of l.self.bits.now) (supplied_by (suppliers_of l.self.suppliers.now)) (length l.self.climb.now) l.j l.k l.set
