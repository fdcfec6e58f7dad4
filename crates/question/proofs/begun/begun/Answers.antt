use Rattle.std.proofs.Common.{[], ◌∷◌, length, sym, ap, ◌∙◌, length-append, rules, tests}
use Rattle.std.proofs.lemmas.Iterator.{YieldsList-from_slice}
use Rattle.std.proofs.lemmas.Iterator.Consumers.{YieldsList-at, YieldsList-from_filter, YieldsList-turn, YieldsList-end}
use Rattle.std.proofs.lemmas.Result.{err_from_is_err_and}
use Rattle.question.specs.Rises.{stays_at, beginnings, kept}
use Rattle.question.specs.Rows.{held}
use Rattle.question.specs.Rules.{rule_of, words_of}
use Rattle.question.proofs.Kept.{kept_next, kept_over}
use Rattle.question.proofs.Stayers.{left_from, left_all, left_next, left_none}
use Rattle.question.proofs.begun.begun.Goals as goal

pub loop-rule-init : goal.loop-rule-init
loop-rule-init c = (search rules, search rules, ap (λ l. kept (words_of l) (left_from (λ r. beginnings r.left) c.args.stage c.args.rules.now 0)) c.new-words.ensures ∙ ap (kept []) (left_all (λ r. beginnings r.left) c.args.stage c.args.rules.now))

pub returns-in_err-keep_beginnings : goal.returns-in_err-keep_beginnings
returns-in_err-keep_beginnings c =
    let turn =
    YieldsList-turn
    (YieldsList-at c.into_iter-rule-iterator.ensures.into_iter_gives
    (YieldsList-from_filter _ (λ r. stays_at c.args.stage (rule_of r)) (YieldsList-from_slice c.args.rules.now cc) c.filter-rule-items.ensures.closure (λ x r q k. search (rules, tests))))
    c.loop-rule.yielded _ c.loop-rule.yielded_by _ _ c.in-Some.rule c.in-Some.is c.next.ensures.steps in
    let (_, _, left) = c.loop-rule.invariant in
    let step = left_next (λ r. beginnings r.left) c.args.stage c.args.rules.now (length c.loop-rule.yielded) c.in-Some.rule.now turn in
    let p = err_from_is_err_and c.from_residual.result c.from_residual.ensures.1 in
    rw p.1 (kept_over _ _ _ (beginnings (held c.in-Some.rule.now.left)) _ step left _ c.in_err-keep_beginnings.ensures)

pub loop-rule-preserved : goal.loop-rule-preserved
loop-rule-preserved c =
    let turn =
    YieldsList-turn
    (YieldsList-at c.into_iter-rule-iterator.ensures.into_iter_gives
    (YieldsList-from_filter _ (λ r. stays_at c.args.stage (rule_of r)) (YieldsList-from_slice c.args.rules.now cc) c.filter-rule-items.ensures.closure (λ x r q k. search (rules, tests))))
    c.loop-rule.yielded _ c.loop-rule.yielded_by _ _ c.in-Some.rule c.in-Some.is c.next.ensures.steps in
    let (_, _, left) = c.loop-rule.invariant in
    let step = left_next (λ r. beginnings r.left) c.args.stage c.args.rules.now (length c.loop-rule.yielded) c.in-Some.rule.now turn in
    (search rules, search rules, rw (length-append c.loop-rule.yielded (c.in-Some.rule ∷ [])) (kept_next _ _ _ (beginnings (held c.in-Some.rule.now.left)) _ step left _ c.in_ok-keep_beginnings.ensures))

pub returns : goal.returns
returns c =
    let all =
    YieldsList-end
    (YieldsList-at c.into_iter-rule-iterator.ensures.into_iter_gives
    (YieldsList-from_filter _ (λ r. stays_at c.args.stage (rule_of r)) (YieldsList-from_slice c.args.rules.now cc) c.filter-rule-items.ensures.closure (λ x r q k. search (rules, tests))))
    c.loop-rule.yielded _ c.loop-rule.yielded_by _ _ c.in-None.is c.next.ensures.steps in
    let (_, _, left) = c.loop-rule.invariant in
    sym (ap (kept (words_of c.loop-rule.words.items)) (left_none (λ r. beginnings r.left) c.args.stage c.args.rules.now c.loop-rule.yielded all.0)) ∙ left
