use Rattle.std.proofs.Common.{ℕ, List, length, refl, subst, arith, below_more}
use borrow.Author.Tests.{clash}
use Rattle.std.proofs.lemmas.Bool.Decides.{not_from_Decides}
use Rattle.question.specs.Rules.{rules_of}
use Rattle.question.proofs.Deciders.{Serving, way_serves, none_serves, serves_runs}
use Rattle.question.proofs.Ways.{way, way_is, way_supplies}
use Rattle.question.proofs.feasible.feasible.Goals as goal

pub returns-then-serves : goal.returns-then-serves
returns-then-serves g c =
    let n = length c.args.climb.now in
    let is = way_is n c.loop-way.way c.suppliers-suppliers.result c.suppliers-suppliers.ensures in
    let serving = way_serves (rules_of c.args.rules.now) (g.Q.Pool.words c.args.pool.now) c.args.climb.now (way n c.loop-way.way) (way_supplies n c.loop-way.way c.requires.few (omega arith))
    (subst (Serving (rules_of c.args.rules.now) (g.Q.Pool.words c.args.pool.now) c.args.climb.now) is (c.serves.ensures.0 c.if-serves.true)) c.in-Ok.ensures.light in
    record { decides = (λ _. serving, λ _. refl); runs = serves_runs _ _ _ _ (λ _. serving, λ _. refl) }

pub loop-way-preserved : goal.loop-way-preserved
loop-way-preserved g c =
    let is = way_is (length c.args.climb.now) c.loop-way.way c.suppliers-suppliers.result c.suppliers-suppliers.ensures in
    let Unserved : List ℕ → Type 0 = λ s. Serving (rules_of c.args.rules.now) (g.Q.Pool.words c.args.pool.now) c.args.climb.now s → ⊥ in
    record { below = below_more _ _ c.loop-way.invariant.below (subst Unserved is (not_from_Decides _ c.serves.ensures c.if-serves.false)) }

pub returns : goal.returns
returns g c =
    let none = none_serves (rules_of c.args.rules.now) (g.Q.Pool.words c.args.pool.now) c.args.climb.now c.loop-way.way c.requires.few (omega arith) c.loop-way.invariant in
    record { decides = (λ e. absurd (clash e), λ t. absurd (none t)); runs = serves_runs _ _ _ _ (λ e. absurd (clash e), λ t. absurd (none t)) }
