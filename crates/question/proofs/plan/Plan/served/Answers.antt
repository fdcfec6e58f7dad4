use Rattle.std.proofs.Common.{◌+◌, length, sym, ◌∙◌, subst, arith}
use Rattle.question.specs.Supply.{supplied_by}
use Rattle.question.specs.Bits.{bits_of}
use Rattle.question.specs.Coding.{suppliers_of}
use Rattle.question.proofs.Pairs.{base_ready}
use Rattle.question.proofs.Serving.{Serving, serving_start, serving_next, serving_skip}
use Rattle.question.proofs.plan.Plan.served.Goals as goal
use Rattle.question.proofs.plan.Plan.served.Goals.{then-supplies, else-supplies}

pub loop-k-init : goal.loop-k-init
loop-k-init c = serving_start _ _ _ _

pub only-set-requires : goal.only-set-requires
only-set-requires c = base_ready c.args.self.now.ready (c.args.j + 1) c.loop-k.k (omega arith) (omega arith)

pub loop-k-preserved : goal.loop-k-preserved
loop-k-preserved c =
    let plan = c.args.self.now in
    let k = c.loop-k.k in
    let Next = Serving (bits_of plan.bits.now) (supplied_by (suppliers_of plan.suppliers.now)) (length plan.climb.now) c.args.j (k + 1) in
    elim c.if-supplies.branch [
      | then-supplies w ↦ subst Next (sym w.set-is) (serving_next c.loop-k.invariant (omega arith) _ (sym w.if-supplies.true ∙ c.supplies.ensures) w.only-set.ensures)
      | else-supplies w ↦ subst Next (sym w.set-is) (serving_skip c.loop-k.invariant (omega arith) (sym w.if-supplies.false ∙ c.supplies.ensures))
    ]
