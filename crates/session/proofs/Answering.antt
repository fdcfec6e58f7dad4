-- From what the parts of a call say to what the call answers and leaves.
use Rattle.std.proofs.Common.{◌≡◌, ℕ, ◌<◌, ◌≤◌, List, [], ◌∷◌, ◌++◌, length, take, drop, IsErrAnd, Ok, Err, Result, sym, refl, ap, ◌∙◌, subst, subst₂, inl, inr, MatchResult, arith}
use Rattle.std.proofs.lemmas.Result.{err_from_is_err_and}
use Rattle.model.specs.declared.orders.Order.{Ghosts as OrderMeaning}
use Rattle.model.specs.declared.pools.Pool.{Ghosts as PoolMeaning}
use Rattle.model.specs.Symbols.{Symbols}
use Rattle.question.specs.declared.row.Row.{Row}
use Rattle.question.specs.declared.row.WordError.{WordError}
use Rattle.question.specs.declared.rule.Rule.{Rule as Held}
use Rattle.question.specs.Rows.{held, HasRoom, IsMade}
use Rattle.question.specs.Rules.{rule_of}
use Rattle.session.specs.declared.fault.Fault.{Fault}
use Rattle.session.specs.declared.fault.Fault.TheVariants.{HeardFull}
use Rattle.session.specs.declared.session.News.{News}
use Rattle.session.specs.declared.session.News.TheVariants.{New}
use Rattle.session.specs.declared.session.Session.{Session}
use Rattle.session.specs.Calls.{Call, admit, hear, fire, Answer, refused, numbered, stands_at}
use Rattle.session.specs.Checks.{Check, Passed, RefusedBy, Checked}
use Rattle.session.specs.Faults.{fault_of}
use Rattle.session.specs.Limits.{heard_places}
use Rattle.session.specs.Ledger.{Ledger, at_stage, InPool, HasPlace, made_by, word_checks, side_checks, result_checks, ready_checks, checks, Does.admits, Does.hears_known, Does.hears_new, Does.fires_known, Does.fires_new, Serves, Serves.refuses, Serves.accepts}
use Rattle.question.specs.Runs.{Word, Rule, rule}
use Rattle.session.specs.Sessions.{ledger, answer, news, Notes, Notes.is_known, Notes.is_new, Notes.no_place, Kept, Served}
use Rattle.session.proofs.Checking.{at_first, no_words}

pub same_kept : {O P : Type 0} (s : Session O P) → Kept s s
same_kept s = record { order = refl; pool = refl }

-- The checks of a call on a session.
abbrev pub table : {O P : Type 0} → OrderMeaning O → PoolMeaning P → Session O P → Call → List Check
table order pool s call = checks (order.stages s.order) (order.above s.order) (pool.words s.pool) (ledger s) call

module _ {O P : Type 0} {order : OrderMeaning O} {pool : PoolMeaning P} {s : Session O P} {call : Call} where
  pub refused_here : (f : Fault) → RefusedBy f (table order pool s call) → Served order pool s call (refused f) s
  refused_here f r = record { kept = same_kept s; serves = refuses r }

  -- At the exit of a `?`.
  pub refused_out : {A : Type 0} {t : Session O P} (g : A → Answer) (r : Result A Fault) (f : Fault) → IsErrAnd r (λ y. y ≡ f) →
      Served order pool s call (refused f) t → Served order pool s call (answer g r) t
  refused_out {t = t} g r f e h =
      let (y, is, same) = err_from_is_err_and r e in
      subst (λ x. Served order pool s call (answer g x) t) (sym (is ∙ ap Err same)) h

  -- By one of the first n checks.
  pub refused_first : (n : ℕ) (f : Fault) → RefusedBy f (take n (table order pool s call)) → Served order pool s call (refused f) s
  refused_first n f h = refused_here f (at_first n (table order pool s call) f h)

-- A word that makes no row is refused by its checks.
pub no_word : (w : Word) (Q : Row 32 → Type 0) (e : WordError) → IsMade (HasRoom 32 (length w)) (Symbols w) Q (Err e) → RefusedBy (fault_of e) (word_checks w)
no_word w Q e h = no_words (length w ≤ 32) Q (λ short. (omega arith, short)) (λ fits. fits.1) e h

-- Sides that make no rule are refused by their checks.
pub no_rule_made : (left right : Word) (Q : Held → Type 0) (e : WordError) → IsMade ((length left ≤ 4) × (length right ≤ 4)) (Symbols left × Symbols right) Q (Err e) → RefusedBy (fault_of e) (side_checks left right)
no_rule_made left right Q e h = no_words ((length left ≤ 4) × (length right ≤ 4)) Q (λ short. short) (λ short. short) e h

-- A word that the pool lacks is noted.
pub noted_new : (W : Word → Type 0) (L : Ledger) (v w : Word) (ws : List Word) → v ≡ w → (InPool W L v → ⊥) → length L.heard < heard_places → ws ≡ L.heard ++ w ∷ [] →
    Notes W L w (Ok New) (record { stage = L.stage; rules = L.rules; heard = ws })
noted_new W L v w ws same lacks room after =
    subst (λ us. Notes W L w (Ok New) (record { stage = L.stage; rules = L.rules; heard = us })) (sym after) (is_new (subst (λ u. InPool W L u → ⊥) same lacks) room)

module _ (size : ℕ) (above : ℕ → ℕ → Type 0) (W : Word → Type 0) (L : Ledger) where
  hears_at : (w : Word) (r : Result News Fault) (M : Ledger) → Passed (word_checks w) → Notes W L w r M → Serves size above W L (hear w) (answer news r) M
  hears_at w r M (short, (symbols, _)) (is_known h) = accepts (short, (symbols, (inl h, tt))) (hears_known h)
  hears_at w r M (short, (symbols, _)) (is_new n room) = accepts (short, (symbols, (inr room, tt))) (hears_new n)
  hears_at w r M (short, (symbols, _)) (no_place n) = refuses (inr (short, inr (symbols, inl (n, refl))))

  pub hears : (w v : Word) (r : Result News Fault) (M : Ledger) → Passed (word_checks w) → v ≡ w → Notes W L v r M → Serves size above W L (hear w) (answer news r) M
  hears w v r M good same notes = hears_at w r M good (subst (λ u. Notes W L u r M) same notes)

  pub admitted : (r : Rule) (n : ℕ) (rules : List Rule) → Passed (checks size above W L (admit r)) → n ≡ length L.rules → rules ≡ L.rules ++ r ∷ [] →
      Serves size above W L (admit r) (numbered n) (record { stage = L.stage; rules = rules; heard = L.heard })
  admitted r n rules ok last after =
      subst₂ (λ m rs. Serves size above W L (admit r) (numbered m) (record { stage = L.stage; rules = rs; heard = L.heard })) (sym last) (sym after) (accepts ok admits)

module _ (size : ℕ) (above : ℕ → ℕ → Type 0) (W : Word → Type 0) (L : Ledger) (k : ℕ) (w : Word) where
  -- The rule r has the number k, and the word that it makes is noted so.
  abbrev Fires : Result News Fault → Ledger → Rule → Type 0
  Fires noted M r = Passed (result_checks r w) → Notes W L (made_by r w) noted M →
      MatchResult noted (λ _. Serves size above W L (fire k w) (stands_at r.to) (at_stage r.to M)) (λ f. Serves size above W L (fire k w) (refused f) M)

  passes : Passed (word_checks w) → Passed (ready_checks W L k w) → Passed (result_checks (rule L.rules k) w) → HasPlace W L (made_by (rule L.rules k) w) → Passed (checks size above W L (fire k w))
  passes (short, (symbols, _)) (there, (here, (found, _))) (begins, (made_short, _)) place = (short, (symbols, (there, (here, (found, (begins, (made_short, (place, tt))))))))

  -- The checks before the word is rewritten pass, and a later one refuses.
  after_ready : (f : Fault) → Passed (word_checks w) → Passed (ready_checks W L k w) → RefusedBy f (drop 5 (checks size above W L (fire k w))) → RefusedBy f (checks size above W L (fire k w))
  after_ready f (short, (symbols, _)) (there, (here, (found, _))) r = inr (short, inr (symbols, inr (there, inr (here, inr (found, r)))))

  fires_at : (noted : Result News Fault) (M : Ledger) → Passed (word_checks w) → Passed (ready_checks W L k w) → Fires noted M (rule L.rules k)
  fires_at noted M good_word ready good (is_known i) = accepts (passes good_word ready good (inl i)) (fires_known i)
  fires_at noted M good_word ready good (is_new n room) = accepts (passes good_word ready good (inr room)) (fires_new n)
  fires_at noted M good_word ready (begins, (short, _)) (no_place n) = refuses (after_ready HeardFull good_word ready (inr (begins, inr (short, inl (n, refl)))))

  fires : (noted : Result News Fault) (M : Ledger) (r : Rule) (v made : Word) → v ≡ w → Passed (word_checks w) → Passed (ready_checks W L k w) → r ≡ rule L.rules k → Passed (result_checks r v) → made ≡ made_by r v →
      Notes W L made noted M → MatchResult noted (λ _. Serves size above W L (fire k w) (stands_at r.to) (at_stage r.to M)) (λ f. Serves size above W L (fire k w) (refused f) M)
  fires noted M r v made same good_word ready is good makes notes =
      subst (Fires noted M) (sym is) (fires_at noted M good_word ready) (subst (λ u. Passed (result_checks r u)) same good) (subst (λ u. Notes W L u noted M) (makes ∙ ap (made_by r) same) notes)

-- A fire of rule number k on the word w, which the row holds.
module _ {O P : Type 0} (order : OrderMeaning O) (pool : PoolMeaning P) (s : Session O P) (k : ℕ) (w : Word) (row : Row 32) (laid : IsMade (HasRoom 32 (length w)) (Symbols w) (λ r. held r ≡ w) (Ok row)) where
  abbrev good_word : Passed (word_checks w)
  good_word = (laid.0.1, (laid.1, tt))

  pub fire_unready : (f : Fault) → RefusedBy f (ready_checks (pool.words s.pool) (ledger s) k w) → Served order pool s (fire k w) (refused f) s
  fire_unready f bad =
      let (short, (symbols, _)) = good_word in
      refused_here f (inr (short, inr (symbols, at_first 3 (drop 2 (table order pool s (fire k w))) f bad)))

  module _ (r : Held) (ready : Checked (ready_checks (pool.words s.pool) (ledger s) k w) (Ok r) (λ r. rule_of r ≡ rule (ledger s).rules k)) where
    pub fire_without_result : (f : Fault) → RefusedBy f (result_checks (rule_of r) (held row)) → Served order pool s (fire k w) (refused f) s
    fire_without_result f bad =
        refused_here f (after_ready (order.stages s.order) (order.above s.order) _ _ k w f good_word ready.0 (at_first 2 (drop 5 (table order pool s (fire k w))) f (subst₂ (λ x u. RefusedBy f (result_checks x u)) ready.1 laid.2 bad)))

    pub fired : (made : Row 32) → Checked (result_checks (rule_of r) (held row)) (Ok made) (λ m. held m ≡ made_by (rule_of r) (held row)) → (noted : Result News Fault) (t : Session O P) → Kept s t → Notes (pool.words s.pool) (ledger s) (held made) noted (ledger t) →
        MatchResult noted (λ _. Served order pool s (fire k w) (stands_at r.to) (record t { stage = r.to })) (λ f. Served order pool s (fire k w) (refused f) t)
    fired made makes noted t kept notes = by noted (fires (order.stages s.order) (order.above s.order) (pool.words s.pool) (ledger s) k w noted (ledger t) (rule_of r) (held row) (held made) laid.2 good_word ready.0 ready.1 makes.0 makes.1 notes)
      where
        by : (noted : Result News Fault) →
            MatchResult noted (λ _. Serves (order.stages s.order) (order.above s.order) (pool.words s.pool) (ledger s) (fire k w) (stands_at r.to) (at_stage r.to (ledger t))) (λ f. Serves (order.stages s.order) (order.above s.order) (pool.words s.pool) (ledger s) (fire k w) (refused f) (ledger t)) →
            MatchResult noted (λ _. Served order pool s (fire k w) (stands_at r.to) (record t { stage = r.to })) (λ f. Served order pool s (fire k w) (refused f) t)
        by (Ok n) serves = record { kept = record { order = kept.order; pool = kept.pool }; serves = serves }
        by (Err f) serves = record { kept = kept; serves = serves }
