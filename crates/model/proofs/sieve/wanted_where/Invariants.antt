use Rattle.std.proofs.Common.{◌≡◌, ℕ, ◌<◌, ◌↔◌, length}
use Rattle.model.specs.Sieves.{Wanted}
use Rattle.model.proofs.sieve.wanted_where.Given as goal

abbrev pub invariant-loop-m : goal.invariant-loop-m
invariant-loop-m g l = (length l.byte-items ≡ 2048) × ((k : ℕ) → k < l.m → Wanted l.byte-items k ↔ g.T.MarkTest.means l.test k)
