use Rattle.std.proofs.Common.{◌≡◌, ℕ, List, set, ◌+◌, ◌*◌, length, get_or, sym, ap, ◌∙◌, subst₂, arith, length-set}
use Rattle.std.proofs.lemmas.Bool.Decides.{not_from_Decides}
use Rattle.model.specs.Keys.{Lead}
use Rattle.model.specs.Sieves.{next}
use Rattle.model.specs.Symbols.{InSet}
use Rattle.model.proofs.KeyWords.{lead_back, mark_below}
use Rattle.model.proofs.Passes.{Pass, pass_skip, pass_set}
use Rattle.model.proofs.closing.Closing.widen.Goals as goal
use Rattle.model.proofs.closing.Closing.widen.Goals.{then-list-place-eq0+then-leads_on, else-list-place-eq0, else-list-place-eq0-via-then-list-place-eq0+else-leads_on, else-list-place-eq0-via-else-list-place-eq0}

pub loop-m-preserved : goal.loop-m-preserved
loop-m-preserved c =
    let keys = c.args.self.now.set.0 in
    let table = c.args.self.now.sieve.table.now in
    let lead = Lead keys table c.args.self.now.sieve.wanted.now in
    let before = c.args.list.now in
    let list = c.loop-m.list in
    let m = c.loop-m.m in
    let written = λ (l : List ℕ) (e : l ≡ set list c.from-place.result 1). e ∙ ap (λ k. set list k 1) c.from-place.ensures in
    elim c.if-list-place-eq0.branch [
      | then-list-place-eq0+then-leads_on w ↦
          let is = written _ w.list-is in
          let long : length list ≡ 2048 = sym (length-set list m 1) ∙ sym (ap length is) ∙ c.if-list-place-eq0.array_long in
          let found = w.leads_on.ensures.0 w.if-leads_on.true in
          subst₂ (λ l b. Pass lead (next table) (InSet keys) before l (m + 1) b) (sym is) (sym w.changed-is)
          (pass_set lead (next table) (InSet keys) (lead_back keys table _) before list m c.loop-m.changed c.loop-m.invariant (omega arith) (sym (ap (λ k. get_or list k 0) c.from-place.ensures) ∙ w.if-list-place-eq0.true) found.0 found.1 (mark_below (get_or table (16 * m + found.0) 0)) found.2)
      | else-list-place-eq0 w ↦
          subst₂ (λ l b. Pass lead (next table) (InSet keys) before l (m + 1) b) (sym w.list-is) (sym w.changed-is)
          (pass_skip lead (next table) (InSet keys) before list m c.loop-m.changed c.loop-m.invariant
          (elim w.else-list-place-eq0.branch [
            | else-list-place-eq0-via-then-list-place-eq0+else-leads_on v ↦ λ s is t. absurd (not_from_Decides _ v.leads_on.ensures v.if-leads_on.false (s, is, t))
            | else-list-place-eq0-via-else-list-place-eq0 v ↦ λ s is t. omega (arith, v.if-list-place-eq0.false, ap (λ k. get_or list k 0) c.from-place.ensures)
          ]))
    ]
