use Rattle.std.proofs.Common.{◌/◌, ◌^◌, sym, ◌∙◌}
use lib.Bits.{and_mask}
use Rattle.std.proofs.lemmas.Bool.{eqb-true, eq-eqb}
use Rattle.question.specs.Accepts.{Has}
use Rattle.question.proofs.mark.has.Goals as goal

pub returns : goal.returns
unfolding Has
returns c =
    let low = and_mask (c.args.set / 2 ^ c.args.bit) 1 in
    (λ e. sym low ∙ eqb-true _ _ e, λ h. eq-eqb _ _ (low ∙ h))
