use Rattle.model.specs.Keys.{Lead}
use Rattle.model.specs.Sieves.{next}
use Rattle.model.specs.Symbols.{InSet}
use Rattle.model.proofs.Passes.{Pass}
use Rattle.model.proofs.closing.Closing.widen.Given as goal

abbrev pub invariant-loop-m : goal.invariant-loop-m
invariant-loop-m l =
    Pass (Lead l.self.set.0 l.self.sieve.table.now l.self.sieve.wanted.now) (next l.self.sieve.table.now) (InSet l.self.set.0) l.initial.list l.list l.m l.changed
