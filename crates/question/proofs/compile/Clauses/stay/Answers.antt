use Rattle.std.proofs.Common.{◌*◌, [], ◌∷◌, length, ap, ◌∙◌, subst, arith, rules, tests}
use Rattle.std.proofs.lemmas.Iterator.{YieldsList-from_slice}
use Rattle.std.proofs.lemmas.Iterator.Consumers.{YieldsList-at, YieldsList-from_filter, YieldsList-turn, YieldsList-end}
use Rattle.std.specs.List.{flat_map}
use Rattle.question.specs.Horns.{base, by_staying}
use Rattle.question.specs.Rises.{stays_at, staying}
use Rattle.question.specs.Rules.{rule_of, rules_of}
use Rattle.question.specs.Bits.{bits_of}
use Rattle.question.specs.Coding.{Adds, clauses_of}
use Rattle.question.proofs.Adding.{adds_item, adds_upto}
use Rattle.question.proofs.Members.{all_in}
use Rattle.question.proofs.Pairs.{base_ready, staying_ready}
use Rattle.question.proofs.Stayers.{stayer_in, stayers_few, stayers_yielded}
use Rattle.question.proofs.compile.Clauses.stay.Goals as goal

pub only-body-requires : goal.only-body-requires
only-body-requires c = base_ready c.args.plan.now.ready c.args.i c.args.j c.requires.pair.0 c.requires.pair.1

pub spell-requires : goal.spell-requires
spell-requires c =
    let plan = c.args.plan.now in
    let stage = c.rule-stage.result.from in
    let turn =
    YieldsList-turn
    (YieldsList-at c.into_iter-rule-iterator.ensures.into_iter_gives
    (YieldsList-from_filter _ (λ r. stays_at stage (rule_of r)) (YieldsList-from_slice plan.rules.now cc) c.filter-rule-items.ensures.closure (λ x r q k. search (rules, tests))))
    c.loop-rule.yielded _ c.loop-rule.yielded_by _ _ c.in-Some.rule c.in-Some.is c.next.ensures.steps in
    let (_, _, added) = c.loop-rule.invariant in
    record {
      room = omega (arith, added.few, c.requires.room, turn.0, stayers_few stage plan.rules.now, plan.ready.climbing.room);
      met = all_in _ (staying_ready plan.ready c.args.i c.args.j _ c.requires.pair.0 c.requires.pair.1 c.rule-stage.ensures) (stayer_in stage plan.rules.now (length c.loop-rule.yielded) c.in-Some.rule.now turn);
    }

pub loop-rule-preserved : goal.loop-rule-preserved
loop-rule-preserved c =
    let (_, _, added) = c.loop-rule.invariant in
    (search rules, search rules, adds_item _ (λ r. by_staying c.args.i c.args.j (rule_of r.now)) c.loop-rule.yielded c.in-Some.rule _ _ _ added (c.spell.ensures (base c.args.i c.args.j ∷ []) c.only-body.ensures))

pub returns : goal.returns
returns c =
    let plan = c.args.plan.now in
    let stage = c.rule-stage.result.from in
    let all =
    YieldsList-end
    (YieldsList-at c.into_iter-rule-iterator.ensures.into_iter_gives
    (YieldsList-from_filter _ (λ r. stays_at stage (rule_of r)) (YieldsList-from_slice plan.rules.now cc) c.filter-rule-items.ensures.closure (λ x r q k. search (rules, tests))))
    c.loop-rule.yielded _ c.loop-rule.yielded_by _ _ c.in-None.is c.next.ensures.steps in
    let (_, _, added) = c.loop-rule.invariant in
    let by = by_staying c.args.i c.args.j in
    let is = stayers_yielded by stage plan.rules.now c.loop-rule.yielded all.0 ∙ ap (λ r. flat_map by (staying (rules_of plan.rules.now) r.from)) c.rule-stage.ensures in
    subst (λ hs. Adds (bits_of plan.bits.now) 128 hs (clauses_of c.args.self.now) (clauses_of c.loop-rule.self)) is
    (adds_upto _ (4 * length c.loop-rule.yielded) 128 _ _ _ (omega (arith, all.1, stayers_few stage plan.rules.now, plan.ready.climbing.room)) added)
