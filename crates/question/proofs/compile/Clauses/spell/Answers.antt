use Rattle.std.proofs.Common.{◌≡◌, ◌<◌, [], length, get_or, take, Some, None, sym, refl, ap, ◌∙◌, subst, arith}
use Rattle.std.proofs.ByRecursion.{All-get_or}
use Rattle.std.proofs.lemmas.List.{get_or_append_left, get_or_push, nil_from_length, take_at}
use Rattle.question.specs.Rows.{held}
use Rattle.question.specs.Horns.{bit, base, horn, spelled}
use Rattle.question.specs.Lists.{In}
use Rattle.question.specs.Bits.{bits_of}
use Rattle.question.specs.Coding.{clauses_of, Adds}
use Rattle.question.proofs.Adding.{adds_one, adds_upto}
use Rattle.question.proofs.Spelling.{reads, spelling_next, spelling_end}
use Rattle.question.proofs.compile.Clauses.spell.Goals as goal

pub returns-in_default : goal.returns-in_default
returns-in_default c bs set =
    let all = bits_of c.args.bits.now in
    let none = sym c.word-word.ensures.value ∙ nil_from_length _ c.in_default.ensures.cases in
    let right = held c.args.rule.now.right in
    let added = adds_one all (horn (base c.args.at c.args.goal) None right bs) _ _ _ c.push.ensures.items (record { head_is = c.number.ensures.is; symbol_is = refl; word_is = refl; body_is = set }) in
    subst (λ l. Adds all 4 (spelled (base c.args.at c.args.goal) l right bs) (clauses_of c.args.self.now) c.push.new.self.items) (sym none) (adds_upto all 1 4 _ _ _ (omega arith) added)

pub push-requires-in-loop-m : goal.push-requires-in-loop-m
push-requires-in-loop-m c = (omega arith, omega (arith, (c.loop-m.invariant []).few, c.requires.room, c.word-word.ensures.short, c.in-Some.ensures.cases.1, c.loop-m-test.true))

pub loop-m-preserved : goal.loop-m-preserved
loop-m-preserved c =
    let all = bits_of c.args.bits.now in
    let word = c.word-word.result.now in
    let front = c.in-Some.front.now in
    let m = c.loop-m.m in
    let symbol : get_or front m 0 ≡ get_or word m 0 = sym (ap (λ l. get_or l m 0) c.in-Some.ensures.cases.0 ∙ get_or_append_left front _ 0 m c.loop-m-test.true) in
    spelling_next all c.args.at c.args.goal word _ _ _ _ m c.loop-m.invariant (omega (arith, c.in-Some.ensures.cases.1, c.loop-m-test.true))
    (adds_one all (reads c.args.at c.args.goal word m) _ _ _ c.push-in-loop-m.ensures.items
    (record { head_is = c.number-in-loop-m.ensures.is; symbol_is = ap (λ a. Some a) symbol; word_is = c.default.ensures; body_is = c.only.ensures }))

pub number-requires-2 : goal.number-requires-2
number-requires-2 c =
    let front = c.in-Some.front.now in
    let read : take (length front) c.word-word.result.now ≡ front = ap (take (length front)) c.in-Some.ensures.cases.0 ∙ take_at front _ (length front) refl in
    subst (λ u. In (bit c.args.at c.args.goal u) (bits_of c.args.bits.now)) (ap (take (length front)) (sym c.word-word.ensures.value) ∙ read)
    (c.requires.met (length front) (omega (arith, ap length c.word-word.ensures.value, c.in-Some.ensures.cases.1)))

pub invariant_of-push-2 : goal.invariant_of-push-2
invariant_of-push-2 c =
    let word = c.word-word.result.now in
    let front = c.in-Some.front.now in
    let last : get_or word (length front) 0 ≡ c.in-Some.last.now = ap (λ l. get_or l (length front) 0) c.in-Some.ensures.cases.0 ∙ get_or_push front _ 0 (length front) refl in
    record { bit = c.number-2.ensures.below; letter = subst (λ a. a < 16) last (All-get_or _ word (length front) 0 (omega (arith, c.in-Some.ensures.cases.1)) c.word-word.ensures.below) }

pub push-requires-2 : goal.push-requires-2
push-requires-2 c = (omega arith, omega (arith, (c.loop-m.invariant []).few, c.requires.room, c.word-word.ensures.short, c.in-Some.ensures.cases.1, c.loop-m.auto.m-end))

pub returns : goal.returns
returns c bs set =
    let all = bits_of c.args.bits.now in
    let right = held c.args.rule.now.right in
    let before = clauses_of c.args.self.now in
    let front = c.in-Some.front.now in
    let added = adds_one all (horn (bit c.args.at c.args.goal front) (Some c.in-Some.last.now) right bs) _ _ _ c.push-2.ensures.items
    (record { head_is = c.number-2.ensures.is; symbol_is = refl; word_is = refl; body_is = set }) in
    subst (λ l. Adds all 4 (spelled (base c.args.at c.args.goal) l right bs) before c.push-2.new.self.items) c.word-word.ensures.value
    (spelling_end all c.args.at c.args.goal _ right before _ _ _ c.loop-m.invariant front c.in-Some.last.now c.in-Some.ensures.cases.0 (omega (arith, c.loop-m.auto.m-end, c.loop-m-test.false)) c.word-word.ensures.short bs added)
