-- A stage that was left does not come again.
use Rattle.std.proofs.Common.{◌≡◌, ℕ, zero, suc, ◌≤◌, ◌≢◌, ◌⊎◌, List, [], ◌∷◌, ◌++◌, length, sym, refl, subst, inl, inr, ⊎_elim, arith}
use Rattle.std.proofs.lemmas.List.{get_or_append_left, get_or_push, length_push}
use Rattle.std.proofs.lemmas.Bool.{cases_lt}
use Rattle.question.specs.Runs.{Word, Rule, rule, no_rule}
use Rattle.question.specs.Orders.{Order, Up, NeverFalls}
use Rattle.session.specs.Checks.{Passed}
use Rattle.session.specs.Calls.{Call, fire, Answer}
use Rattle.session.specs.Ledger.{Ledger, fresh, checks, Does.admits, Does.hears_known, Does.hears_new, Does.fires_known, Does.fires_new, Does.denies, Does.tells, Serves, Serves.refuses, Serves.accepts}
use Rattle.session.specs.Law.{Entry, ledger_after, stage_after, Follows}

module _ (size : ℕ) (above : ℕ → ℕ → Type 0) (W : Word → Type 0) (order : Order size above) where
  -- b is a, or stands above it. At size 0 the session stands at 0, which is no stage.
  abbrev From : ℕ → ℕ → Type 0
  From a b = (b ≡ a) ⊎ Up size above a b

  from_trans : (a b c : ℕ) → From a b → From b c → From a c
  from_trans a b c h (inl e) = subst (From a) (sym e) h
  from_trans a b c (inl e) (inr g) = subst (λ x. From x c) e (inr g)
  from_trans a b c (inr h) (inr g) = inr (record { from = h.from; to = g.to; stands = order.transitive a b c h.from h.to g.to g.stands h.stands })

  from_antisym : (a b : ℕ) → From a b → From b a → b ≡ a
  from_antisym a b (inl e) h = e
  from_antisym a b (inr g) (inl e) = sym e
  from_antisym a b (inr g) (inr h) = order.antisymmetric b a g.to g.from g.stands h.stands

  never_falls_more : (rules : List Rule) (r : Rule) → NeverFalls size above rules → Up size above r.from r.to → NeverFalls size above (rules ++ r ∷ [])
  never_falls_more rules r h up k lt = ⊎_elim
      (λ l. subst (λ x. Up size above x.from x.to) (sym (get_or_append_left rules (r ∷ []) no_rule k l)) (h k l))
      (λ g. subst (λ x. Up size above x.from x.to) (sym (get_or_push rules r no_rule k (omega (arith, length_push rules r)))) up)
      (cases_lt k (length rules))

  -- A call keeps rules that never fall, and the stage after it is the one before it, or stands above it.
  record Climbs (L M : Ledger) : Type 0 where
    pub never_falls : NeverFalls size above M.rules
    pub up : From L.stage M.stage

  same : (L : Ledger) → NeverFalls size above L.rules → Climbs L L
  same L h = record { never_falls = h; up = inl refl }

  fired : (L : Ledger) (k : ℕ) (w : Word) (heard : List Word) → NeverFalls size above L.rules → Passed (checks size above W L (fire k w)) →
      Climbs L (record { stage = (rule L.rules k).to; rules = L.rules; heard = heard })
  fired L k w heard h (_, (_, (there, (here, _)))) = record { never_falls = h; up = inr (subst (λ p. Up size above p (rule L.rules k).to) here (h k there)) }

  climbs : (L : Ledger) (call : Call) (a : Answer) (M : Ledger) → NeverFalls size above L.rules → Serves size above W L call a M → Climbs L M
  climbs L call a M h (refuses r) = same L h
  climbs L call a M h (accepts p (admits {r})) =
      record { never_falls = never_falls_more L.rules r h (record { from = p.0.0; to = p.0.1; stands = p.1.1.1.0 }); up = inl refl }
  climbs L call a M h (accepts p (hears_known i)) = same L h
  climbs L call a M h (accepts p (hears_new i)) = record { never_falls = h; up = inl refl }
  climbs L call a M h (accepts p (fires_known {k} {w} i)) = fired L k w M.heard h p
  climbs L call a M h (accepts p (fires_new {k} {w} i)) = fired L k w M.heard h p
  climbs L call a M h (accepts p (denies o)) = same L h
  climbs L call a M h (accepts p (tells e)) = same L h

  -- A later stage is an earlier one, or stands above it.
  ordered : (j k : ℕ) (L : Ledger) (es : List Entry) → j ≤ k → NeverFalls size above L.rules → Follows size above W L es →
      From (ledger_after j L es).stage (ledger_after k L es).stage
  ordered zero zero L es l h f = inl refl
  ordered zero (suc k) L [] l h f = inl refl
  ordered zero (suc k) L (e ∷ es) l h f =
      let c = climbs L e.call e.answer e.after h f.0 in
      from_trans L.stage e.after.stage _ c.up (ordered zero k e.after es (omega arith) c.never_falls f.1)
  ordered (suc j) zero L es l h f = absurd (omega arith)
  ordered (suc j) (suc k) L [] l h f = inl refl
  ordered (suc j) (suc k) L (e ∷ es) l h f =
      ordered j k e.after es (omega arith) (climbs L e.call e.answer e.after h f.0).never_falls f.1

  pub never_back : (es : List Entry) → Follows size above W fresh es → (i j k : ℕ) → i ≤ j → j ≤ k →
      stage_after j es ≢ stage_after i es → stage_after k es ≢ stage_after i es
  never_back es f i j k ij jk left again =
      let none : NeverFalls size above [] = λ m l. absurd (omega arith) in
      left (from_antisym (stage_after i es) (stage_after j es) (ordered i j fresh es ij none f) (subst (From (stage_after j es)) again (ordered j k fresh es jk none f)))
