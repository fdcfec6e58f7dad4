use Rattle.std.proofs.Common.{suc, sym, refl, subst, add-one, arith, below_more}
use borrow.Author.Tests.{clash}
use lib.ListN.{length-map}
use Rattle.std.proofs.lemmas.Bool.Decides.{not_from_Decides}
use Rattle.question.specs.Rules.{rules_of}
use Rattle.question.specs.Rounds.{heaviest, Over}
use Rattle.question.proofs.Rounds.{rounds_decide}
use Rattle.question.proofs.Weighed.{no_round, light_start, over_capped, capped_over}
use Rattle.question.proofs.weighing.is_heavy.Goals as goal

pub loop-n-init : goal.loop-n-init
loop-n-init c = (rw c.from.ensures (no_round (rules_of c.args.rules.now) c.args.stage c.args.goal (omega arith)), light_start (rules_of c.args.rules.now) c.args.stage c.args.goal)

pub returns-then-is_over : goal.returns-then-is_over
returns-then-is_over c =
    let rules = rules_of c.args.rules.now in
    let shows = c.one_more-weights.ensures (heaviest rules c.args.goal c.loop-n.n) c.loop-n.invariant.0 in λ short. (
      λ _. (rounds_decide rules short c.args.stage c.args.goal).1
          (suc c.loop-n.n, simp length-map (omega arith), over_capped _ (subst Over (shows.at c.args.stage (omega arith)) (rw c.from-in-loop-n.ensures at (c.is_over.ensures.0 c.if-is_over.true)))),
      λ _. refl,
    )

pub loop-n-preserved : goal.loop-n-preserved
loop-n-preserved c =
    let rules = rules_of c.args.rules.now in
    let shows = c.one_more-weights.ensures (heaviest rules c.args.goal c.loop-n.n) c.loop-n.invariant.0 in (
      rw add-one shows,
      below_more _ _ c.loop-n.invariant.1 (rw add-one (λ h. not_from_Decides _ (rw c.from-in-loop-n.ensures at c.is_over.ensures) c.if-is_over.false (subst Over (sym (shows.at c.args.stage (omega arith))) (capped_over _ h)))),
    )

pub returns : goal.returns
returns c = λ short. (
  λ e. absurd (clash e),
  λ h. let (n, l, o) = (rounds_decide (rules_of c.args.rules.now) short c.args.stage c.args.goal).0 h in absurd (c.loop-n.invariant.1 n (omega (arith, simp length-map at l)) o),
)
