use Rattle.std.proofs.Common.{sym, refl, ap, ◌∙◌, subst, arith}
use Rattle.std.specs.Result.{result_ok}
use Rattle.std.proofs.lemmas.List.{length-map}
use Rattle.question.specs.Judging.{Ruled}
use Rattle.question.specs.Rules.{rule_of, rules_of}
use Rattle.question.specs.declared.verdict.Verdict.TheVariants.{TooHeavy}
use Rattle.question.proofs.Clearing.{untouched, cleared}
use Rattle.question.proofs.Judges.{ruled_heavy, ruled_found}
use Rattle.question.proofs.verdict.judge.Goals as goal

pub returns-then-is_heavy : goal.returns-then-is_heavy
returns-then-is_heavy g c =
    let laws = g.met.O.Order in
    let o = c.args.order.now in
    let work = c.args.workspace.now in
    let some = c.ok_or.ensures.ok_part ∙ ap result_ok c.in_ok-cells.was in
    let first = rw some at c.first_chunk_mut.ensures.cases in (
      omega (arith, length-map c.args.rules.now rule_of, c.if-rules-gt-MOST_RULES.false),
      c.first_chunk_mut.ensures.variant.0 (rw some refl),
      subst (λ cells. Ruled (g.O.Order.stages o) (g.O.Order.above o) (g.Q.Pool.words c.args.pool.now) (rules_of c.args.rules.now) c.args.stage c.args.goal work TooHeavy cells)
          (sym (untouched work c.in_ok-cells.cells.now first.same))
          (ruled_heavy _ _ (record { reflexive = laws.reflexive o; antisymmetric = laws.antisymmetric o; transitive = laws.transitive o }) _ _ _ _ c.is_heavy.ensures work c.if-is_heavy.true),
    )

pub returns : goal.returns
returns g c =
    let laws = g.met.O.Order in
    let o = c.args.order.now in
    let some = c.ok_or.ensures.ok_part ∙ ap result_ok c.in_ok-cells.was in (
      omega (arith, length-map c.args.rules.now rule_of, c.if-rules-gt-MOST_RULES.false),
      c.first_chunk_mut.ensures.variant.0 (rw some refl),
      ruled_found _ _ (record { reflexive = laws.reflexive o; antisymmetric = laws.antisymmetric o; transitive = laws.transitive o }) _ _ _ _ c.is_heavy.ensures c.if-is_heavy.false
          (cleared c.args.workspace.now c.clear.new.cells c.clear.ensures) c.earliest-found.result c.earliest-found.ensures c.map_or.ensures,
    )
