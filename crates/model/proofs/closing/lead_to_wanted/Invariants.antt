use Rattle.std.proofs.Common.{ℕ, ◌<◌}
use Rattle.model.specs.Closing.{Sound, missing}
use Rattle.model.specs.Keys.{Lead}
use Rattle.model.specs.Sieves.{Wanted}
use Rattle.model.proofs.closing.lead_to_wanted.Given as goal

abbrev pub invariant-loop-closing : goal.invariant-loop-closing
invariant-loop-closing l = Sound (Lead l.closing.set.0 l.closing.sieve.table.now l.closing.sieve.wanted.now) l.list × ((k : ℕ) → k < 2048 → Wanted l.closing.sieve.wanted.now k → Wanted l.list k)

abbrev pub decreases-loop-closing : goal.decreases-loop-closing
decreases-loop-closing l = missing l.list
