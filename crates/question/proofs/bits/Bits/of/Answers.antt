use Rattle.std.proofs.Common.{◌≡◌, ◌+◌, ◌<◌, List, [], ◌∷◌, ◌++◌, map, length, refl, ap, ◌∙◌, subst}
use Rattle.std.specs.List.{flat_map}
use Rattle.std.proofs.lemmas.Result.{err_from_is_err_and}
use Rattle.question.specs.Rises.{beginnings, begun}
use Rattle.question.specs.Rules.{rules_of, words_of}
use Rattle.question.specs.Rows.{held}
use Rattle.question.specs.Horns.{Bit, bit}
use Rattle.question.specs.Bits.{bits, bits_of, bits_for}
use Rattle.question.proofs.Grown.{grown_next, grown_over, grown_end}
use Rattle.question.proofs.Numbered.{weighed}
use Rattle.question.proofs.Puts.{only_goal, stages_from, stages_next, stages_end, tabled}
use Rattle.question.proofs.bits.Bits.of.Goals as goal
use Rattle.question.proofs.bits.Bits.of.Goals.{After-put_words}

-- the bits for the beginnings of the changing rule's left side
abbrev left : After-put_words → List Bit
left c = map (bit c.loop-i.i c.loop-i.i) (beginnings (held c.changing-rule.result.left))

left_put : (c : After-put_words) → flat_map (bits_for c.loop-i.i (c.loop-i.i + 1)) (words_of c.as_slice.result.now) ≡ left c
left_put c = ap (flat_map (bits_for c.loop-i.i (c.loop-i.i + 1))) (ap words_of c.as_slice.ensures.value ∙ c.beginnings.ensures) ∙ only_goal c.loop-i.i _

-- with those and what is left to put behind them, the table is whole
whole : (c : After-put_words) → bits_of c.put_stage.new.self ++ (left c ++ stages_from (rules_of c.args.rules.now) c.args.climb.now (c.loop-i.i + 1)) ≡ bits (rules_of c.args.rules.now) c.args.climb.now
whole c =
    let rules = rules_of c.args.rules.now in
    let next = stages_next rules c.args.climb.now c.loop-i.i _ c.loop-i-test.true c.changing-rule.ensures in
    grown_next _ _ _ (flat_map (bits_for c.loop-i.i _) ([] ∷ begun rules c.changing-rule.result.from)) _ next c.loop-i.invariant _ c.in_ok-put_stage.ensures

pub returns-in_err-put_stage : goal.returns-in_err-put_stage
returns-in_err-put_stage c =
    let rules = rules_of c.args.rules.now in
    let climb = c.args.climb.now in
    let next = stages_next rules climb c.loop-i.i _ c.loop-i-test.true c.changing-rule.ensures in
    let p = err_from_is_err_and c.from_residual.result c.from_residual.ensures.1 in
    rw p.1
    (subst (λ m. 11 < m) (weighed rules climb)
    (grown_over _ _ _ (flat_map (bits_for c.loop-i.i _) ([] ∷ begun rules c.changing-rule.result.from)) _ next c.loop-i.invariant 11 c.in_err-put_stage.ensures))

pub returns-in_err-put_words : goal.returns-in_err-put_words
returns-in_err-put_words c =
    let put = (goal.at.returns-in_err-put_words c).After-put_words in
    let p = err_from_is_err_and c.from_residual-in_err-put_words.result c.from_residual-in_err-put_words.ensures.1 in
    let more = subst (λ bs. 11 < length (bits_of c.put_stage.new.self ++ bs)) (left_put put) c.in_err-put_words.ensures in
    rw p.1 (subst (λ m. 11 < m) (weighed (rules_of c.args.rules.now) c.args.climb.now) (grown_over _ (bits_of c.put_stage.new.self) _ (left put) _ refl (whole put) 11 more))

pub loop-i-preserved : goal.loop-i-preserved
loop-i-preserved c =
    let put = (goal.at.loop-i-preserved c).After-put_words in
    grown_next _ (bits_of c.put_stage.new.self) _ (left put) _ refl (whole put) _ (c.in_ok-put_words.ensures ∙ ap (λ bs. bits_of c.put_stage.new.self ++ bs) (left_put put))

pub returns : goal.returns
returns c =
    let rules = rules_of c.args.rules.now in
    let climb = c.args.climb.now in
    tabled rules climb c.loop-i.table (grown_end _ _ _ (stages_end rules climb c.loop-i.i c.loop-i-test.false) c.loop-i.invariant)
