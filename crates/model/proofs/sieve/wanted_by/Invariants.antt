use Rattle.std.proofs.Common.{◌≡◌, ℕ, ◌<◌, Bool, Decides, length}
use Rattle.model.specs.Sieves.{Wanted}
use Rattle.model.proofs.sieve.wanted_by.Given as goal

abbrev pub invariant-loop-m : goal.invariant-loop-m
invariant-loop-m g l = (length l.byte-items ≡ 2048) × ((k : ℕ) → k < l.m → (yes : Bool) × g.C.MarkChoice.may l.choice k yes × Decides yes (Wanted l.byte-items k))
