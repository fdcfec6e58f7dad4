use Rattle.std.proofs.Common.{◌≡◌, ℕ, ◌<◌, length, get_or}
use Rattle.question.proofs.reached.Reached.new.Given as goal

abbrev pub invariant-loop-i : goal.invariant-loop-i
invariant-loop-i l = (length l.mark-items ≡ 2048) × ((k : ℕ) → k < l.i → get_or l.mark-items k 0 ≡ k)
