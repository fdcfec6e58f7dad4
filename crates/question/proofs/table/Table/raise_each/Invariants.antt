use Rattle.std.proofs.Common.{Some}
use Rattle.question.specs.Accepts.{Stands}
use Rattle.question.specs.Marks.{cell_of}
use Rattle.question.specs.Stable.{Settles}
use Rattle.question.proofs.Turns.{Sweep}
use Rattle.question.proofs.table.Table.raise_each.Given as goal

-- if no cell changed so far, the clause adds no bit to the cells of the symbols before this one
abbrev pub invariant-loop-symbol : goal.invariant-loop-symbol
invariant-loop-symbol l =
    Sweep (Stands l.clause) (λ t a. Settles t l.mark.bits (Some a) (cell_of t l.mark.bits a) l.clause) l.initial.self l.symbol l.self l.changed
