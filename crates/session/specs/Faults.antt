-- The number of each refusal, and how words are refused that make no row and no rule.
use Rattle.std.specs.Prelude.{ℕ}
use Rattle.question.specs.declared.row.WordError.{WordError}
use Rattle.question.specs.declared.row.WordError.TheVariants.{TooLong as Long, SymbolTooHigh as High}
use Rattle.session.specs.declared.fault.Fault.{Fault}
use Rattle.session.specs.declared.fault.Fault.TheVariants.{NoSuchStage, SymbolTooHigh, TooLong, Falls, BufferShort, RulesFull, HeardFull, NoSuchRule, OtherStage, NotInPool, OtherBeginning, ResultTooLong, TooHeavy}

abbrev pub number_of : Fault → ℕ
number_of NoSuchStage = 5
number_of SymbolTooHigh = 6
number_of TooLong = 7
number_of Falls = 8
number_of BufferShort = 9
number_of RulesFull = 10
number_of HeardFull = 11
number_of NoSuchRule = 12
number_of OtherStage = 13
number_of NotInPool = 14
number_of OtherBeginning = 15
number_of ResultTooLong = 16
number_of TooHeavy = 17

abbrev pub fault_of : WordError → Fault
fault_of Long = TooLong
fault_of High = SymbolTooHigh
