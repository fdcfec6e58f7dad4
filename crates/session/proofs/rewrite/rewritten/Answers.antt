use Rattle.std.proofs.Common.{◌≡◌, Ok, Err, rules, tests}
use Rattle.std.proofs.lemmas.Bool.Decides.{Decides-eqb}
use Rattle.std.proofs.lemmas.Slice.Eq.{strip_prefix_is}
use Rattle.question.proofs.Laid.{held_symbols}
use Rattle.question.specs.Rows.{held}
use Rattle.question.specs.Rules.{rule_of}
use Rattle.session.specs.Ledger.{made_by, result_checks}
use Rattle.session.proofs.Checking.{checked_out}
use Rattle.session.proofs.Rewriting.{begun, joined}
use Rattle.session.proofs.rewrite.rewritten.Goals as goal

pub returns-in_err-rest : goal.returns-in_err-rest
returns-in_err-rest c =
    let r = rule_of c.args.rule.now in
    let w = held c.args.word.now in
    let found = strip_prefix_is Decides-eqb c.word.result.now c.word-2.result.now c.strip_prefix.result c.strip_prefix.ensures.cases in
    checked_out (result_checks r w) _ (λ row. held row ≡ made_by r w) _ c.from_residual.ensures.1
    (begun r w _ _ c.word.ensures.value c.word-2.ensures.value _ (Err c.in_err-rest.field-0.0) c.in_err-rest.ensures.value found)

pub returns : goal.returns
returns c =
    let r = rule_of c.args.rule.now in
    let w = held c.args.word.now in
    let found = strip_prefix_is Decides-eqb c.word.result.now c.word-2.result.now c.strip_prefix.result c.strip_prefix.ensures.cases in
    let split = begun r w _ _ c.word.ensures.value c.word-2.ensures.value _ (Ok c.in_ok-rest.rest) c.in_ok-rest.ensures.value found in
    joined r w c.in_ok-rest.rest.now split _ c.word-3.ensures.value c.word-3.ensures.below (held_symbols c.args.word.now) _ _ (λ e f k. search (rules, tests)) c.joined.ensures c.map_err.ensures.cases
