use Rattle.std.proofs.Common.{rules, ℕ, ◌<◌, ◌↔◌, []}
use Rattle.model.specs.Sieves.{Wanted, run}
use Rattle.model.proofs.KeyWords.{closed_all, run_below}
use Rattle.model.proofs.closing.lead_to_wanted.Goals as goal

pub loop-closing-init : goal.loop-closing-init
loop-closing-init c =
    let listed : (m : ℕ) → m < 2048 → (Wanted c.wanted_where-list.result m ↔ Wanted c.args.sieve.wanted.now m) =
    λ m lt. let l = c.wanted_where-list.ensures m lt in search rules in
    (λ k lt t. ([], tt, (listed k lt).0 t), λ k lt w. (listed k lt).1 w)

pub returns : goal.returns
returns c =
    let wide = c.widen.ensures in
    let table = c.args.sieve.table.now in
    λ m lt. (
      wide.sound m lt,
      λ l. closed_all c.args.set.0 table c.args.sieve.wanted.now c.widen.new.list (wide.closed c.loop-closing-test.false) l.0 m lt l.1 (wide.grows (run table m l.0) (c.loop-closing.invariant.1 (run table m l.0) (run_below table m l.0 lt) l.2)),
    )
