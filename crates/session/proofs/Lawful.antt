-- The ledger keeps the law.
use Rattle.std.proofs.Common.{◌≡◌, ℕ, zero, suc, ◌<◌, ◌≢◌, List, [], ◌∷◌, ◌++◌, length, sym, refl, ap, ◌∙◌, subst, arith}
use Rattle.std.proofs.lemmas.List.{map_push}
use Rattle.question.specs.Runs.{Word, Climb, Run, Run.done, Out}
use Rattle.question.specs.Orders.{Order}
use Rattle.session.specs.Calls.{Call, fire, Answer, stands_at}
use Rattle.session.specs.Ledger.{Ledger, fresh, OutOfReach, InReach, Does.admits, Does.hears_known, Does.hears_new, Does.fires_known, Does.fires_new, Does.denies, Does.tells, Serves, Serves.refuses, Serves.accepts}
use Rattle.session.specs.Law.{Entry, ledger_after, At, Denies, Denies.denied, Tells, Tells.told, Adds, Adds.admitted, Adds.heard_new, Follows, History}
use Rattle.session.specs.Consequences.{LawHolds, HistoryGoesOn}
use Rattle.question.proofs.Runs.{out_stays, more_words}
use Rattle.session.proofs.Firing.{fire_is_step}
use Rattle.session.proofs.Stages.{never_back}

module _ (size : ℕ) (above : ℕ → ℕ → Type 0) (W : Word → Type 0) where
  out_elsewhere : (L : Ledger) (goal : ℕ) → OutOfReach W L goal → L.stage ≢ goal
  out_elsewhere L goal out e = out [] (L.heard, subst (λ q. Run L.rules W L.stage L.heard [] q L.heard) e done)

  -- A fire leaves the goal out of reach, since it is a step.
  fires_out : (goal : ℕ) (L : Ledger) (k : ℕ) (w : Word) (q : ℕ) (heard : List Word) →
      Serves size above W L (fire k w) (stands_at q) (record { stage = q; rules = L.rules; heard = heard }) →
      OutOfReach W L goal → Out L.rules W q heard goal
  fires_out goal L k w q heard s out =
      let (made, steps, limits, stepped) = (fire_is_step size above W).fire_steps L k w q _ s in
      let after = (out_stays W).after_step L.rules k L.stage q goal L.heard made out steps.step in
      λ c r. after c (more_words W W L.rules q goal heard (made ∷ L.heard) c (λ v. (stepped.pool v).0) r)

  -- A call that adds nothing leaves the goal out of reach.
  keeps_out : (goal : ℕ) (L : Ledger) (call : Call) (a : Answer) (M : Ledger) → Serves size above W L call a M →
      (Adds (record { call = call; answer = a; after = M }) → ⊥) → OutOfReach W L goal → OutOfReach W M goal
  keeps_out goal L call a M (refuses r) none out = out
  keeps_out goal L call a M (accepts p admits) none out = absurd (none admitted)
  keeps_out goal L call a M (accepts p (hears_known i)) none out = out
  keeps_out goal L call a M (accepts p (hears_new i)) none out = absurd (none heard_new)
  keeps_out goal L call a M (accepts p (fires_known {k} {w} i)) none out = fires_out goal L k w M.stage M.heard (accepts p (fires_known i)) out
  keeps_out goal L call a M (accepts p (fires_new {k} {w} i)) none out = fires_out goal L k w M.stage M.heard (accepts p (fires_new i)) out
  keeps_out goal L call a M (accepts p (denies o)) none out = out
  keeps_out goal L call a M (accepts p (tells e)) none out = out

  -- Where the goal is out of reach, it is not the stage until something is added.
  out_until : (goal n : ℕ) (L : Ledger) (es : List Entry) → Follows size above W L es → OutOfReach W L goal →
      ((j : ℕ) → j < n → At j Adds es → ⊥) → (ledger_after n L es).stage ≢ goal
  out_until goal zero L es f out none = out_elsewhere L goal out
  out_until goal (suc n) L [] f out none = out_elsewhere L goal out
  out_until goal (suc n) L (e ∷ es) f out none =
      out_until goal n e.after es f.1 (keeps_out goal L e.call e.answer e.after f.0 (none 0 (omega arith)) out) (λ j l. none (suc j) (omega arith))

  -- An ask that denies the goal says that it is out of reach of the ledger that it leaves.
  denied_out : (goal : ℕ) (L : Ledger) (e : Entry) → Denies goal e → Serves size above W L e.call e.answer e.after → OutOfReach W e.after goal
  denied_out goal L e denied (accepts p (denies out)) = out

  -- What is true of the ledger at each entry of a kind is true at entry number i.
  at_entry : (X : Entry → Type 0) (Y : Ledger → Type 0) → ((L : Ledger) (e : Entry) → X e → Serves size above W L e.call e.answer e.after → Y L) →
      (i : ℕ) (L : Ledger) (es : List Entry) → Follows size above W L es → At i X es → Y (ledger_after i L es)
  at_entry X Y each i L [] f x = absurd x
  at_entry X Y each zero L (e ∷ es) f x = each L e x f.0
  at_entry X Y each (suc i) L (e ∷ es) f x = at_entry X Y each i e.after es f.1 x

  truly_out : (goal : ℕ) (L : Ledger) (e : Entry) → Denies goal e → Serves size above W L e.call e.answer e.after → OutOfReach W L goal
  truly_out goal L e denied (accepts p (denies out)) = out

  truly_in : (goal : ℕ) (c : Climb) (L : Ledger) (e : Entry) → Tells goal c e → Serves size above W L e.call e.answer e.after → InReach W L goal c
  truly_in goal c L e told (accepts p (tells reached)) = reached

  -- By the place of the ask in the history.
  stays_out : (goal i k : ℕ) (L : Ledger) (es : List Entry) → Follows size above W L es → At i (Denies goal) es → i < k →
      ((j : ℕ) → i < j → j < k → At j Adds es → ⊥) → (ledger_after k L es).stage ≢ goal
  stays_out goal i zero L es f d l none = absurd (omega arith)
  stays_out goal i (suc k) L [] f d l none = absurd d
  stays_out goal zero (suc k) L (e ∷ es) f d l none =
      out_until goal k e.after es f.1 (denied_out goal L e d f.0) (λ j m. none (suc j) (omega arith) (omega arith))
  stays_out goal (suc i) (suc k) L (e ∷ es) f d l none =
      stays_out goal i k e.after es f.1 d (omega arith) (λ j m n. none (suc j) (omega arith) (omega arith))

  pub law_holds : Order size above → LawHolds size above W
  law_holds order es f = record {
    follows = f;
    truly_out = λ i goal. at_entry (Denies goal) (λ L. OutOfReach W L goal) (truly_out goal) i fresh es f;
    truly_in = λ i goal c. at_entry (Tells goal c) (λ L. InReach W L goal c) (truly_in goal c) i fresh es f;
    never_back = never_back size above W order es f;
    stays_out = λ i k goal. stays_out goal i k fresh es f;
  }

  -- A history, with one entry more.
  follows_more : (L : Ledger) (es : List Entry) (e : Entry) → Follows size above W L es →
      Serves size above W (ledger_after (length es) L es) e.call e.answer e.after → Follows size above W L (es ++ e ∷ [])
  follows_more L [] e f s = (s, tt)
  follows_more L (d ∷ es) e f s = (f.0, follows_more d.after es e f.1 s)

  ends_more : (L : Ledger) (es : List Entry) (e : Entry) → ledger_after (length (es ++ e ∷ [])) L (es ++ e ∷ []) ≡ e.after
  ends_more L [] e = refl
  ends_more L (d ∷ es) e = ends_more d.after es e

  -- The history with one call more, and its entries.
  pub history_more : Order size above → {calls : List Call} {answers : List Answer} {L M : Ledger} {call : Call} {a : Answer} (h : History size above W calls answers L) → Serves size above W L call a M →
      (g : History size above W (calls ++ call ∷ []) (answers ++ a ∷ []) M) × (g.entries ≡ h.entries ++ record { call = call; answer = a; after = M } ∷ [])
  history_more order {L = L} {M = M} {call = call} {a = a} h s =
      let e : Entry = record { call = call; answer = a; after = M } in
      let f = follows_more fresh h.entries e h.lawful.follows (subst (λ K. Serves size above W K call a M) (sym h.ends) s) in (
        record {
          entries = h.entries ++ e ∷ [];
          called = map_push (λ x. x.call) h.entries e ∙ ap (λ cs. cs ++ call ∷ []) h.called;
          answered = map_push (λ x. x.answer) h.entries e ∙ ap (λ cs. cs ++ a ∷ []) h.answered;
          ends = ends_more fresh h.entries e;
          lawful = law_holds order (h.entries ++ e ∷ []) f;
        },
        refl,
      )

  pub history_goes_on : Order size above → HistoryGoesOn size above W
  history_goes_on order = record {
    none = record { entries = []; called = refl; answered = refl; ends = refl; lawful = law_holds order [] tt };
    more = λ calls answers L call a M h s. (history_more order h s).0;
  }
