use Rattle.std.proofs.Common.{◌≡◌, [], ◌∷◌, ◌++◌, refl, sym, ap, ◌∙◌, inl, inr, arith}
use Rattle.std.proofs.lemmas.Bool.Decides.{not_from_Decides}
use Rattle.std.proofs.lemmas.List.{length-map}
use Rattle.question.specs.Rules.{rule_of}
use Rattle.session.specs.declared.fault.Fault.TheVariants.{Falls, RulesFull}
use Rattle.session.specs.Calls.{numbered}
use Rattle.session.specs.Sessions.{ledger}
use Rattle.session.specs.Tables.{items}
use Rattle.session.proofs.Answering.{refused_here, refused_out, refused_first, no_rule_made, admitted}
use Rattle.session.proofs.Tables.{map_added}
use Rattle.session.proofs.session.Session.admit.Goals as goal

pub returns-in_err-check_stages : goal.returns-in_err-check_stages
returns-in_err-check_stages g c = refused_out numbered _ _ c.from_residual.ensures.1 (refused_first 1 _ c.in_err-check_stages.ensures)

pub returns-in_err-rule : goal.returns-in_err-rule
returns-in_err-rule g c =
    let (stages, _) = c.in_ok-check_stages.ensures.0 in
    refused_out numbered _ _ c.from_residual-in_err-rule.ensures.1 (refused_first 3 _ (inr (stages, no_rule_made _ _ (λ rule. rule_of rule ≡ record { from = c.args.from; left = c.args.left.now; to = c.args.to; right = c.args.right.now }) _ c.in_err-rule.ensures)))

pub returns-then-not-at_or_above : goal.returns-then-not-at_or_above
returns-then-not-at_or_above g c =
    let (stages, _) = c.in_ok-check_stages.ensures.0 in
    let (short, symbols, _) = c.in_ok-rule.ensures in
    let falls = not_from_Decides _ c.at_or_above.ensures c.if-not-at_or_above.true in
    refused_here Falls (inr (stages, inr (short, inr (symbols, inl (λ h. falls (stages.1, stages.0, h), refl)))))

pub returns-then-is_full : goal.returns-then-is_full
returns-then-is_full g c =
    let (stages, _) = c.in_ok-check_stages.ensures.0 in
    let (short, symbols, _) = c.in_ok-rule.ensures in
    let (_, _, stands) = c.at_or_above.ensures.0 c.if-not-at_or_above.false in
    let full = c.is_full.ensures.0 c.if-is_full.true in
    refused_here RulesFull (inr (stages, inr (short, inr (symbols, inr (stands, inl (λ h. omega (arith, full, length-map (items c.args.self.now.rules) rule_of), refl))))))

pub returns : goal.returns
returns g c =
    let s = c.args.self.now in
    let (stages, _) = c.in_ok-check_stages.ensures.0 in
    let (short, symbols, is) = c.in_ok-rule.ensures in
    let (_, _, stands) = c.at_or_above.ensures.0 c.if-not-at_or_above.false in
    let full = not_from_Decides _ c.is_full.ensures c.if-is_full.false in
    let long = length-map (items s.rules) rule_of in
    record {
      kept = record { order = refl; pool = refl };
      serves = admitted _ _ _ _ _ _ _ (stages, (short, (symbols, (stands, (omega (arith, full, long), tt))))) (c.add.ensures.number ∙ sym long)
          (map_added rule_of _ _ _ c.add.ensures.after ∙ ap (λ r. (ledger s).rules ++ r ∷ []) is);
    }
