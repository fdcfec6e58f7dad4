use Rattle.std.proofs.Common.{◌≡◌, ◌+◌, ◌++◌, length}
use Rattle.question.specs.Rises.{beginnings}
use Rattle.question.specs.Rows.{held}
use Rattle.question.specs.Rules.{words_of}
use Rattle.question.proofs.Kept.{from_length}
use Rattle.question.proofs.begun.beginnings.Given as goal

-- with what is left to find, they are all; and they are one fewer than the symbols of the next
abbrev pub invariant-loop-m : goal.invariant-loop-m
invariant-loop-m l = record {
  all : words_of l.found.items ++ from_length (held l.left) l.m ≡ beginnings (held l.left);
  many : length l.found.items + 1 ≡ l.m;
}
