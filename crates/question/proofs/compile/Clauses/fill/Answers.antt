use Rattle.std.proofs.Common.{◌*◌, [], subst, arith}
use Rattle.question.specs.Horns.{horns}
use Rattle.question.specs.Coding.{clauses_of, suppliers_of, Coding, Coding.none}
use Rattle.question.specs.Plans.{rules_in, supplier_in, pair_horns}
use Rattle.question.proofs.Adding.{adding_next, adding_skip, adding_end}
use Rattle.question.proofs.Carried.{coding_right}
use Rattle.question.proofs.Pairs.{pairs_first, pairs_next, horns_end}
use Rattle.question.proofs.compile.Clauses.fill.Goals as goal

pub loop-j-init : goal.loop-j-init
loop-j-init c =
    let plan = c.args.plan.now in
    adding_skip c.loop-i.invariant _ _ (pairs_first (rules_in plan) plan.climb.now (supplier_in plan) c.loop-i.i c.loop-i-test.true) (omega arith)

pub loop-j-preserved : goal.loop-j-preserved
loop-j-preserved c =
    let plan = c.args.plan.now in
    let i = c.loop-i.i in
    let j = c.loop-j.j in
    adding_next c.loop-j.invariant (pair_horns plan i j) _ 132 _ _ (pairs_next (rules_in plan) plan.climb.now (supplier_in plan) i j c.loop-j-test.true) (omega (arith, c.loop-j.auto.j)) c.add_pair.ensures

pub returns : goal.returns
returns c =
    let plan = c.args.plan.now in
    let cs = clauses_of c.loop-i.self in
    let added = adding_end c.loop-i.invariant (528 * c.loop-i.i) (horns_end (rules_in plan) plan.climb.now (supplier_in plan) c.loop-i.i c.loop-i-test.false) (omega arith) in
    coding_right (rules_in plan) plan.climb.now (suppliers_of plan.suppliers.now) cs
    (subst (λ all. Coding all (horns (rules_in plan) plan.climb.now (supplier_in plan)) cs) plan.ready.tabled.listed (added.coded [] none))
