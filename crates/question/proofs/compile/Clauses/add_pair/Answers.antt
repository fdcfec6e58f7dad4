use Rattle.std.proofs.Common.{suc, ◌+◌, [], ◌∷◌, None, refl, subst, add-one, arith}
use Rattle.question.specs.Rules.{rule_of}
use Rattle.question.specs.Horns.{base, horn}
use Rattle.question.specs.Bits.{bits_of}
use Rattle.question.specs.Coding.{SetOf}
use Rattle.question.specs.Plans.{rules_in, supplier_in}
use Rattle.question.proofs.Adding.{adds_one}
use Rattle.question.proofs.Pairs.{base_ready, applying_ready, pair_waits, pair_applies}
use Rattle.question.proofs.compile.Clauses.add_pair.Goals as goal

pub number-requires : goal.number-requires
number-requires c = base_ready c.args.plan.now.ready c.args.i c.args.j c.requires.pair.0 c.requires.pair.1

pub only-requires : goal.only-requires
only-requires c = base_ready c.args.plan.now.ready (c.args.i + 1) c.args.j (omega arith) c.requires.pair.1

pub returns-then-i-j : goal.returns-then-i-j
returns-then-i-j c =
    let plan = c.args.plan.now in
    let all = bits_of plan.bits.now in
    let i = c.args.i in
    let j = c.args.j in
    let next = subst (λ a. SetOf all (base a j ∷ []) c.only.result) (add-one i) c.only.ensures in
    pair_waits all (rules_in plan) plan.climb.now (supplier_in plan) i j _ _ _ c.stay.ensures c.if-i-j.true
    (adds_one all (horn (base i j) None [] (base (suc i) j ∷ [])) _ _ _ c.push.ensures.items (record { head_is = c.number.ensures.is; symbol_is = refl; word_is = c.default.ensures; body_is = next }))

pub spell-requires : goal.spell-requires
spell-requires c = record {
  room = omega (arith, c.requires.room, c.stay.ensures.few);
  met = applying_ready c.args.plan.now.ready c.args.i (rule_of c.rule.result) (omega (arith, c.requires.pair)) c.rule.ensures;
}

pub returns-else-i-j : goal.returns-else-i-j
returns-else-i-j c =
    let plan = c.args.plan.now in
    pair_applies _ (rules_in plan) plan.climb.now (supplier_in plan) c.args.i c.args.j _ _ _ c.stay.ensures (rule_of c.rule.result) c.rule.ensures c.requires.pair.0 c.if-i-j.false (c.spell.ensures _ c.served.ensures)
