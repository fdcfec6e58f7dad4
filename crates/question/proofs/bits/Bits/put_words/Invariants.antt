use Rattle.std.proofs.Common.{◌≡◌, ◌++◌}
use Rattle.question.specs.Bits.{bits_of}
use Rattle.question.proofs.Puts.{words_from}
use Rattle.question.proofs.bits.Bits.put_words.Given as goal

-- with what is left to put, the table is whole
abbrev pub invariant-loop-word : goal.invariant-loop-word
invariant-loop-word l = bits_of l.self ++ words_from l.at l.n l.words l.word-index ≡ bits_of l.initial.self ++ words_from l.at l.n l.words 0
