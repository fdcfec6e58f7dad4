-- Where no rule falls, a rise goes up, never comes back, and uses no rule twice.
use Rattle.std.proofs.Common.{◌≡◌, ℕ, ◌<◌, ◌≤◌, ◌≢◌, List, length, sym, refl, ◌∙◌, subst, subst₂, arith}
use Rattle.question.specs.Lists.{In, In.here, In.there, Once, numbers}
use Rattle.question.specs.Runs.{Word, Rule, Climb, rule, Leads}
use Rattle.question.specs.Rises.{Rise, Rise.none, Rise.then}
use Rattle.question.specs.Orders.{Order, Up, NeverFalls}
use Rattle.question.specs.Theorems.{RunsRise}
use Rattle.question.proofs.Lists.{once_short, in_numbers, length_numbers}
use Rattle.question.proofs.Runs.{climb_rises}

rise_listed : {rules : List Rule} {j p g : ℕ} {c : Climb} → Rise rules p c g → In j c → j < length rules
rise_listed none i = elim i [ ]
rise_listed {rules} (then a changes r) (here e) = subst (λ k. k < length rules) (sym e) a.listed
rise_listed (then a changes r) (there i) = rise_listed r i

module _ (size : ℕ) (above : ℕ → ℕ → Type 0) (order : Order size above) (rules : List Rule) (never : NeverFalls size above rules) where
  abbrev Rises : ℕ → ℕ → Type 0
  Rises = Up size above

  step_up : {k p q : ℕ} → Leads rules k p q → Rises p q
  step_up {k} a = subst₂ Rises a.from a.to (never k a.listed)

  through : {p q r : ℕ} → Rises p q → Rises q r → Rises p r
  through {p} {q} {r} t u = record { from = t.from; to = u.to; stands = order.transitive p q r t.from t.to u.to u.stands t.stands }

  same : {p : ℕ} → p < size → Rises p p
  same {p} h = record { from = h; to = h; stands = order.reflexive p h }

  one : {p q : ℕ} → Rises p q → Rises q p → p ≡ q
  one {p} {q} t u = order.antisymmetric p q t.from t.to u.stands t.stands

  rise_up : {p g : ℕ} {c : Climb} → p < size → Rise rules p c g → Rises p g
  rise_up h none = same h
  rise_up h (then a changes r) = let t = step_up a in through t (rise_up t.to r)

  back : {p q r : ℕ} {c d : Climb} → Rise rules p c q → q ≢ p → Rise rules q d r → r ≢ p
  back none left s e = left refl
  back (then {q = m} a changes r) left s e =
      let t = step_up a in
      let u = rise_up t.to r in
      changes (one t (subst (Rises m) e (through u (rise_up u.to s))))

  -- The rules of a rise begin at or above its start.
  rule_up : {j p g : ℕ} {c : Climb} → p < size → Rise rules p c g → In j c → Rises p (rule rules j).from
  rule_up h none i = elim i [ ]
  rule_up {p = p} h (then a changes r) (here e) = subst (Rises p) (sym a.from ∙ rw e refl) (same h)
  rule_up h (then a changes r) (there i) = let t = step_up a in through t (rule_up t.to r i)

  rise_once : {p g : ℕ} {c : Climb} → Rise rules p c g → Once c
  rise_once none = tt
  rise_once (then {k} {p} {q} a changes r) = let t = step_up a in (λ i. changes (one t (subst (Rises q) a.from (rule_up t.to r i))), rise_once r)

  pub rise_short : (p g : ℕ) (c : Climb) → Rise rules p c g → length c ≤ length rules
  rise_short p g c r =
      let within = once_short c (numbers 0 (length rules)) (rise_once r) (λ j i. in_numbers j 0 (length rules) (omega arith) (omega (arith, rise_listed r i))) in
      omega (arith, length_numbers 0 (length rules))

pub runs_rise : (P : Word → Type 0) (size : ℕ) (above : ℕ → ℕ → Type 0) → Order size above → RunsRise P size above
runs_rise P size above order rules never = record {
  up = λ p q added more c h r. (rise_up size above order rules never h (climb_rises rules P r)).stands;
  never_back = λ p q r added more most c d s left t. back size above order rules never (climb_rises rules P s) left (climb_rises rules P t);
  climb_rises = λ p q added more c r. climb_rises rules P r;
  short = rise_short size above order rules never;
}
