use Rattle.std.proofs.Common.{[], ◌∷◌, length, take, ap, ◌∙◌, arith}
use Rattle.std.proofs.lemmas.List.{map_push}
use Rattle.question.specs.Rows.{held}
use Rattle.question.specs.Rules.{words_of}
use Rattle.question.proofs.Grown.{grown_next}
use Rattle.question.proofs.Kept.{from_length_next}
use Rattle.question.proofs.begun.beginnings.Goals as goal

pub loop-m-preserved : goal.loop-m-preserved
loop-m-preserved c =
    let left = held c.args.left.now in
    let next = from_length_next left c.loop-m.m _ (omega (arith, c.loop-m-test.true, ap length c.word-word.ensures.value)) (c.of.ensures ∙ ap (take c.loop-m.m) c.word-word.ensures.value) in
    record {
      all = grown_next _ _ _ (held c.of.result ∷ []) _ next c.loop-m.invariant.all _ (ap words_of c.push.ensures.items ∙ map_push held c.loop-m.found.items c.of.result);
      many = omega (arith, c.push.ensures.len, c.loop-m.invariant.many);
    }
