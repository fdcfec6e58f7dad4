use Rattle.std.proofs.Common.{refl, arith}
use Rattle.std.proofs.lemmas.Bool.Decides.{not_from_Decides}
use Rattle.question.proofs.Nest.{clear_unfit, clear_inside, clear_away, clear_unserved}
use Rattle.question.proofs.Trails.{Trail.here, Trail.by, none_longer, first_found}
use lib.ListN.{length-map}
use Rattle.question.proofs.search.earliest.Goals as goal

pub loop-a-preserved-in_default : goal.loop-a-preserved-in_default
loop-a-preserved-in_default g c = clear_unfit _ _ _ _ c.loop-a.invariant c.in_default.ensures

pub loop-b-preserved-in_default-next : goal.loop-b-preserved-in_default-next
loop-b-preserved-in_default-next g c = clear_unfit _ _ _ _ c.loop-b.invariant c.in_default-next.ensures

pub loop-c-preserved-in_default-next-2 : goal.loop-c-preserved-in_default-next-2
loop-c-preserved-in_default-next-2 g c = clear_unfit _ _ _ _ c.loop-c.invariant c.in_default-next-2.ensures

pub loop-d-preserved-in_default-next-3 : goal.loop-d-preserved-in_default-next-3
loop-d-preserved-in_default-next-3 g c = clear_unfit _ _ _ _ c.loop-d.invariant c.in_default-next-3.ensures

pub loop-d-preserved-then-end-goal : goal.loop-d-preserved-then-end-goal
loop-d-preserved-then-end-goal g c = clear_away _ _ _ _ c.loop-d.invariant c.in-Some-next-3.ensures c.if-end-goal.true refl

pub loop-d-preserved : goal.loop-d-preserved
loop-d-preserved g c = clear_unserved _ _ _ _ c.loop-d.invariant (not_from_Decides _ (rw c.from.ensures at c.feasible.ensures.decides) c.if-feasible.false) refl

pub loop-c-preserved : goal.loop-c-preserved
loop-c-preserved g c = clear_inside _ _ _ _ c.loop-c.invariant c.in-Some-next-2.ensures c.loop-d.invariant (rw length-map (omega (arith, c.choices-d-end.ensures))) (omega arith)

pub loop-b-preserved : goal.loop-b-preserved
loop-b-preserved g c = clear_inside _ _ _ _ c.loop-b.invariant c.in-Some-next.ensures c.loop-c.invariant (rw length-map (omega (arith, c.choices-c-end.ensures))) (omega arith)

pub loop-a-preserved : goal.loop-a-preserved
loop-a-preserved g c = clear_inside _ _ _ _ c.loop-a.invariant c.in-Some.ensures c.loop-b.invariant (rw length-map (omega (arith, c.choices-b-end.ensures))) (omega arith)

pub loop-n-preserved : goal.loop-n-preserved
loop-n-preserved g c = none_longer _ _ _ _ _ c.loop-n.invariant c.loop-a.invariant (rw length-map (omega (arith, c.choices-a-end.ensures)))

pub returns-then-feasible : goal.returns-then-feasible
returns-then-feasible g c =
    first_found _ _ _ _ _ refl (omega arith) c.loop-n.invariant
    (by c.loop-a.invariant c.in-Some.ensures (by c.loop-b.invariant c.in-Some-next.ensures (by c.loop-c.invariant c.in-Some-next-2.ensures (by c.loop-d.invariant c.in-Some-next-3.ensures (here c.if-end-goal.false)))))
    (rw c.from.ensures at (c.feasible.ensures.decides.0 c.if-feasible.true))
