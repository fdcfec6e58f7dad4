use Rattle.std.proofs.Common.{◌≡◌, ℕ, length, Option}
use Rattle.question.specs.Rules.{rules_of}
use Rattle.question.specs.Weighing.{Shows}
use Rattle.question.proofs.Weighed.{so_far}
use Rattle.question.proofs.weighing.one_more.Given as goal

abbrev pub invariant-loop-k : goal.invariant-loop-k
invariant-loop-k l = (length l.longer ≡ 256) × ((f : ℕ → Option ℕ) → Shows f l.weights → Shows (so_far (rules_of l.rules) l.n f l.k) l.longer)
