use Rattle.std.proofs.Common.{[], ◌∷◌, arith, length-append}
use Rattle.std.specs.List.{flat_map}
use Rattle.std.proofs.lemmas.Result.{err_from_is_err_and}
use Rattle.question.specs.Rises.{begun}
use Rattle.question.specs.Rules.{rules_of}
use Rattle.question.specs.Bits.{bits_of, bits_for}
use Rattle.question.proofs.Puts.{words_fewer}
use Rattle.question.proofs.bits.Bits.put_stage.Goals as goal

pub returns-in_err-words : goal.returns-in_err-words
returns-in_err-words c =
    let us = begun (rules_of c.args.rules.now) c.args.stage in
    let bits = flat_map (bits_for c.args.at c.args.n) ([] ∷ us) in
    let p = err_from_is_err_and c.from_residual.result c.from_residual.ensures.1 in
    rw p.1 (omega (arith, c.in_err-words.ensures, words_fewer c.args.at c.args.n ([] ∷ us) c.requires, length-append (bits_of c.args.self.now) bits))
