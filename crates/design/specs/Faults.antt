-- The number of each fault.
use Rattle.std.specs.Prelude.{ℕ}
use Rattle.design.specs.declared.fault.Fault.{Fault}
use Rattle.design.specs.declared.fault.Fault.TheVariants.{Cut, UnknownTag, WrongLength, Misplaced, FileTooLong}

abbrev pub number : Fault → ℕ
number Cut = 1
number UnknownTag = 2
number WrongLength = 3
number Misplaced = 4
number FileTooLong = 7
