use Rattle.std.proofs.Common.{rules, ℕ, get_or, sym, ◌∙◌, zero-add, subst, arith}
use Rattle.std.proofs.lemmas.Bool.Decides.{Decides-like}
use Rattle.std.proofs.lemmas.Iterator.{YieldsList-from_range}
use Rattle.std.proofs.lemmas.List.FromFn.{get_or-range_with_len}
use Rattle.std.specs.List.{range_with_len}
use Rattle.model.specs.Sieves.{next, Wanted}
use Rattle.model.specs.Symbols.{InSet}
use Rattle.model.proofs.Passes.{any_decides}
use Rattle.model.proofs.closing.Closing.leads_on.Goals as goal

pub returns : goal.returns
returns c =
    let all = range_with_len 0 16 in
    let Leads = λ (s : ℕ). InSet c.args.self.now.set.0 s × Wanted c.args.list.now (next c.args.self.now.sieve.table.now c.args.m s) in
    Decides-like _
    (λ h. (get_or all h.0 0, (h.2 0).0, (h.2 0).1))
    (λ h. (h.0, h.1.0, λ d. subst Leads (sym (get_or-range_with_len 0 16 h.0 d h.1.0 ∙ zero-add h.0)) (h.1, h.2)))
    (any_decides Leads _ _ c.any.result c.any.ensures.ran (YieldsList-from_range 0 16 16 (cc) (omega arith)) (λ x b q k. ((λ i. (k.met.1.0 i, k.met.1.1 i, k.met.1.2 i)), search rules)))
