use Rattle.std.proofs.Common.{None, get_or, sym, refl, ap, ◌∙◌, arith, length-set}
use lib.ListN.{length-map}
use Rattle.question.specs.Rules.{rules_of}
use Rattle.question.specs.Weighing.{capped}
use Rattle.question.proofs.Coded.{rule_at}
use Rattle.question.proofs.Weighed.{max_larger, none_yet, rule_more, rules_all}
use Rattle.question.proofs.weighing.one_more.Goals as goal

pub loop-k-init : goal.loop-k-init
loop-k-init c = (refl, λ f s. none_yet (rules_of c.args.rules.now) c.args.n f)

pub loop-k-preserved : goal.loop-k-preserved
loop-k-preserved c = (
  simp length-set c.loop-k.invariant.0,
  λ f s.
      let rules = c.args.rules.now in
      let rule = c.index-rules-k.result in
      let is = rule_at rules c.loop-k.k rule c.loop-k-test.true c.index-rules-k.is in
      rule_more (rules_of rules) _ f c.loop-k.k c.from-from.result _ _ c.by_rule.result _ (rw c.from-from.ensures (omega arith)) (ap (λ r. r.from) is ∙ sym c.from-from.ensures)
      (rw c.from.ensures (s.at rule.to (omega arith) ∙ ap (λ p. capped (f p)) (sym (ap (λ r. r.to) is)))) c.by_rule.ensures (c.max.ensures ∙ max_larger (get_or c.loop-k.longer c.from-from.result None) c.by_rule.result) (c.loop-k.invariant.1 f s),
)

pub returns : goal.returns
returns c f s = rules_all _ _ f c.loop-k.k _ (rw length-map (omega arith)) (c.loop-k.invariant.1 f s)
