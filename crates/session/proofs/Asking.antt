-- From the checks of an ask, and the verdict on its goal, to what the ask answers and leaves.
use Rattle.std.proofs.Common.{◌≡◌, ℕ, ◌<◌, ◌≤◌, [], length, take, Ok, Err, sym, refl, ap, ◌∙◌, subst, arith}
use native.Mathlib.Decide.{dec_lt}
use Rattle.std.proofs.lemmas.List.{take_at}
use Rattle.model.specs.declared.orders.Order.{Ghosts as OrderMeaning}
use Rattle.model.specs.declared.pools.Pool.{Ghosts as PoolMeaning}
use Rattle.session.specs.declared.fault.Fault.{Fault}
use Rattle.session.specs.declared.session.Reach.TheVariants.{Out, In}
use Rattle.session.specs.declared.session.Session.{Session}
use Rattle.session.specs.Calls.{Lent, ask, in_reach, told}
use Rattle.session.specs.Checks.{Passed, RefusedBy}
use Rattle.session.specs.Ledger.{Ledger, Light, OutOfReach, InReach, checks, Does.denies, Does.tells, Serves, Serves.refuses, Serves.accepts}
use Rattle.question.specs.Rises.{weight, weight_limit, Heavy}
use Rattle.question.specs.Runs.{Climb}
use Rattle.session.specs.Sessions.{ledger, Asked}

pub light : (L : Ledger) (goal : ℕ) → (Heavy L.rules L.stage goal → ⊥) → Light L goal
light L goal not_heavy c r = by (dec_lt weight_limit (weight L.rules c))
  where
    by : Dec (weight_limit < weight L.rules c) → weight L.rules c ≤ weight_limit
    by (yes h) = absurd (not_heavy (c, r, h))
    by (no l) = omega arith

pub not_light : (L : Ledger) (goal : ℕ) → Heavy L.rules L.stage goal → Light L goal → ⊥
not_light L goal (c, r, h) l = omega (arith, l c r)

module _ {O P : Type 0} (order : OrderMeaning O) (pool : PoolMeaning P) (s : Session O P) (goal : ℕ) (lent : Lent) where
  pub asked_refused : (f : Fault) → RefusedBy f (checks (order.stages s.order) (order.above s.order) (pool.words s.pool) (ledger s) (ask goal lent)) → Asked order pool s goal lent (Err f) lent
  asked_refused f r = record { serves = refuses r; left = refl }

  module _ (after : Lent) (ok : Passed (checks (order.stages s.order) (order.above s.order) (pool.words s.pool) (ledger s) (ask goal lent))) where
    pub asked_out : OutOfReach (pool.words s.pool) (ledger s) goal → after ≡ told [] lent → Asked order pool s goal lent (Ok Out) after
    asked_out h is = record { serves = accepts ok (denies h); left = is }

    pub asked_in : (c : Climb) (n : ℕ) → n ≡ length c → InReach (pool.words s.pool) (ledger s) goal c → after ≡ told c lent → Asked order pool s goal lent (Ok (In n)) after
    asked_in c n counted h is =
        let climb : c ≡ take n after.list = sym (ap (λ l. take n l.list) is ∙ take_at c _ n (sym counted)) in
        record {
          serves = subst (λ d. Serves (order.stages s.order) (order.above s.order) (pool.words s.pool) (ledger s) (ask goal lent) (in_reach d) (ledger s)) climb (accepts ok (tells h));
          left = subst (λ d. after ≡ told d lent) climb is;
        }
