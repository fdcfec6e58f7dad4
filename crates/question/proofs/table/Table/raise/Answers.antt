use Rattle.std.proofs.Common.{sym, subst}
use Rattle.question.specs.Accepts.{Stands}
use Rattle.question.specs.Stable.{Turn}
use Rattle.question.proofs.Turns.{cell_turn}
use Rattle.question.proofs.table.Table.raise.Goals as goal

pub returns-clause-turn : goal.returns-clause-turn
returns-clause-turn c =
    subst (Turn (Stands c.args.clause.now) c.args.self.now c.set.new.self) (sym c.ne.ensures)
    (cell_turn c.args.self.now c.set.new.self (c.args.mark.below, c.requires.symbol) c.requires.fit c.next-old.ensures c.beneath.ensures c.grow-new.ensures c.grow-new.result.below c.set.ensures.same c.set.ensures.set)
