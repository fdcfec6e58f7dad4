use Rattle.std.proofs.Common.{◌<◌, sym, ap, subst, arith}
use lib.Bits.{bit_or, or_lt}
use Rattle.std.proofs.lemmas.Nat.{one_shl, pow_below}
use Rattle.question.specs.Stable.{Grown}
use Rattle.question.proofs.Growing.{grown_add}
use Rattle.question.proofs.clause.Clause.grow.Goals as goal

pub invariant_of-result : goal.invariant_of-result
invariant_of-result c =
    let clause = c.args.self.now in
    let bit = one_shl clause.head 16 (omega (arith, clause.bit)) in
    record { below = subst (λ b. bit_or c.args.old.bits b < 2048) (sym bit) (or_lt 11 c.args.old.bits _ c.args.old.below (pow_below clause.head 11 clause.bit)) }

pub returns : goal.returns
returns c =
    let clause = c.args.self.now in
    let bit = one_shl clause.head 16 (omega (arith, clause.bit)) in
    subst (Grown _ _ _ _) (sym (ap (bit_or c.args.old.bits) bit)) (grown_add (c.holds.ensures.0 c.if-not-holds.false))
