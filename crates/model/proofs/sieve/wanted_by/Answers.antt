use Rattle.std.proofs.Common.{rules, ℕ, ◌<◌, Bool, Decides, ◌∙◌, arith, length-set}
use Rattle.model.proofs.Passes.{written_more, byte_tells}
use Rattle.model.proofs.sieve.wanted_by.Goals as goal

pub loop-m-preserved : goal.loop-m-preserved
loop-m-preserved g c =
    let Listed = λ (k v : ℕ). (yes : Bool) × g.C.MarkChoice.may c.args.choice.now k yes × Decides yes (0 < v) in
    let list = c.loop-m.byte-items in (
      length-set list _ _ ∙ c.loop-m.invariant.0,
      written_more Listed list c.loop-m.m _ (omega arith) c.loop-m.invariant.1
          (c.takes.result, c.takes.ensures, byte_tells c.takes.result c.from.result (search rules)),
    )
