use Rattle.question.specs.Bits.{bits_of}
use Rattle.question.proofs.Sets.{set_shifted}
use Rattle.question.proofs.bits.Bits.only.Goals as goal

pub returns : goal.returns
returns c = set_shifted (bits_of c.args.self.now) _ _ c.number.ensures.is c.number.ensures.below
