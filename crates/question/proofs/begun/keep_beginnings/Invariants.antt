use Rattle.std.proofs.Common.{◌≡◌, drop}
use Rattle.question.specs.Rises.{kept, beginnings}
use Rattle.question.specs.Rows.{held}
use Rattle.question.specs.Rules.{words_of}
use Rattle.question.proofs.begun.keep_beginnings.Given as goal

-- what is left to keep gives the whole
abbrev pub invariant-loop-word : goal.invariant-loop-word
invariant-loop-word l = kept (words_of l.words.items) (words_of (drop l.word-index l.word-items)) ≡ kept (words_of l.initial.words.items) (beginnings (held l.left))
