use Rattle.std.proofs.Common.{◌≡◌, ℕ, true, false, Option, None, refl, rules, tests}
use Rattle.std.proofs.lemmas.Bool.{false≢true}
use Rattle.std.proofs.lemmas.Iterator.{YieldsList-from_slice, cases_from_all}
use Rattle.std.proofs.lemmas.Iterator.Consumers.{YieldsList-from_enumerate}
use Rattle.question.specs.Accepts.{Accepts}
use Rattle.question.specs.Feasible.{AcceptedIf}
use Rattle.question.specs.Runs.{Word}
use Rattle.question.proofs.Deciders.{found_by_all}
use Rattle.question.proofs.feasible.accepts_all.Goals as goal

pub returns : goal.returns
returns g c cs t =
    let Found : ℕ × Option ℕ → Type 0 = λ p. p.1 ≡ None → (w : Word) × g.Q.Pool.words c.args.pool.now w × Accepts cs p.0 w in
    found_by_all cs (g.Q.Pool.words c.args.pool.now) c.args.suppliers.now c.all.result
    (cases_from_all _ _ _ Found (λ p. Found p → ⊥) c.all.ensures.ran (YieldsList-from_enumerate (YieldsList-from_slice c.args.suppliers.now (cc)) (cc))
    (λ x q k. let h : (q ≡ _) × AcceptedIf (x.1.now ≡ None) (g.Q.Pool.words c.args.pool.now) c.args.table.now c.args.first x.0 true = search (rules, tests) in (h.0, (h.1 cs t).0 refl))
    (λ x q k. let h : AcceptedIf (x.1.now ≡ None) (g.Q.Pool.words c.args.pool.now) c.args.table.now c.args.first x.0 false = search (rules, tests) in λ found. absurd (false≢true ((h cs t).1 found))))
