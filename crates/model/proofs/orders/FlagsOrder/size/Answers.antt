use Rattle.std.proofs.Common.{arith}
use Rattle.std.proofs.lemmas.Nat.{pow_below}
use Rattle.std.proofs.lemmas.Bool.Decides.{nat_tests}
use Rattle.model.proofs.orders.FlagsOrder.size.Goals as goal

pub returns-else-self-lt16 : goal.returns-else-self-lt16
returns-else-self-lt16 c = grind (arith, nat_tests, pow_below 6 c.args.self.now.0 (omega arith))
