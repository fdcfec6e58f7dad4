-- The worked histories follow the ledger.
use Rattle.std.proofs.Common.{◌≡◌, ℕ, zero, suc, ◌<◌, ◌≤◌, ◌⊎◌, List, [], ◌∷◌, sym, refl, ◌∙◌, subst, inl, inr, ⊎_elim, arith}
use Rattle.question.specs.Runs.{Word, Rule, Climb, Leads, Step, Reaches, Run, Run.done, Run.stay, Run.rise}
use Rattle.question.specs.Rises.{Rise, Rise.none, Rise.then, weight}
use Rattle.question.specs.Verdicts.{Earlier}
use Rattle.session.specs.Ledger.{InReach, OutOfReach, Does.admits, Does.hears_known, Does.hears_new, Does.fires_new, Does.denies, Does.tells, Serves.refuses, Serves.accepts}
use Rattle.model.specs.Symbols.{Symbols}
use Rattle.session.specs.Histories.{to_stage, ruled, fired, TwoStages, NoStage}

abbrev W : Word → Type 0
W w = w ≡ 1 ∷ 15 ∷ []

abbrev rules : List Rule
rules = to_stage 1 ∷ []

not_one : ◌≡◌ {A = ℕ} 0 1 → ⊥
not_one e = omega arith

-- The one rule leads from 0 to 1, so no run and no rise goes on from 1.
only : (k p q : ℕ) → Leads rules k p q → (k ≡ 0) × (p ≡ 0) × (q ≡ 1)
only zero p q l = (refl, sym l.from, sym l.to)
only (suc k) p q l = let h : suc k < 1 = l.listed in absurd (omega arith)

run_from_1 : {p q : ℕ} {added more : List Word} {c : Climb} → Run rules W p added c q more → p ≡ 1 → q ≡ 1
run_from_1 done e = e
run_from_1 (stay {k} {p} s r) e = absurd (not_one (sym (only k p p s.leads).1 ∙ e))
run_from_1 (rise {k} {p} {q} s changes r) e = absurd (not_one (sym (only k p q s.leads).1 ∙ e))

run_without_climb : {p q : ℕ} {added more : List Word} → Run rules W p added [] q more → p ≡ q
run_without_climb done = refl
run_without_climb (stay {k} {p} s r) = run_without_climb r

rise_from_1 : {p g : ℕ} {c : Climb} → Rise rules p c g → p ≡ 1 → c ≡ []
rise_from_1 none e = refl
rise_from_1 (then {k} {p} {q} l changes r) e = absurd (not_one (sym (only k p q l).1 ∙ e))

rises : {p g : ℕ} {c : Climb} → Rise rules p c g → (c ≡ []) ⊎ (c ≡ 0 ∷ [])
rises none = inl refl
rises (then {k} {p} {q} l changes r) =
    let first = (only k p q l).0 in
    let rest = rise_from_1 r (only k p q l).2 in
    inr (cc)

light : (p goal : ℕ) (c : Climb) → Rise rules p c goal → weight rules c ≤ 11
light p goal c r = ⊎_elim (λ e. subst (λ d. weight rules d ≤ 11) (sym e) (omega arith)) (λ e. subst (λ d. weight rules d ≤ 11) (sym e) (omega arith)) (rises r)

in_reach_1 : InReach W ruled 1 (0 ∷ [])
in_reach_1 = record { holds = ((2 ∷ 15 ∷ []) ∷ [], rise step not_one done); first = first }
  where
    step : Step rules W 0 0 1 [] (2 ∷ 15 ∷ [])
    step = record {
      leads = record { listed = omega arith; from = refl; to = refl };
      old = 1 ∷ 15 ∷ [];
      found = refl;
      makes = record { rest = 15 ∷ []; before = refl; after = refl };
    }

    first : (d : Climb) → Reaches rules W 0 [] d 1 → Earlier d (0 ∷ []) → ⊥
    first [] r e = not_one (run_without_climb r.1)
    first (j ∷ d) r (inl l) = omega arith
    first (j ∷ d) r (inr (same, inl l)) = omega arith
    first (j ∷ []) r (inr (same, inr l)) = l.1
    first (j ∷ (k ∷ d)) r (inr (same, inr l)) = l.1

out_of_reach_0 : OutOfReach W fired 0
out_of_reach_0 c r = not_one (run_from_1 r.1 refl)

pub two_stages : TwoStages
two_stages lent cells list = (
  accepts ((omega arith, omega arith), ((omega arith, omega arith), (((omega arith, tt), (omega arith, tt)), (omega arith, (omega arith, tt))))) admits,
  (
    refuses (inl (λ h. omega arith, refl)),
    (
      accepts (omega arith, ((cells, list), (light 0 1, tt))) (tells in_reach_1),
      (
        accepts (omega arith, (symbols 1 (omega arith), (omega arith, (refl, (refl, ((15 ∷ [], refl), (omega arith, (inr (omega arith), tt)))))))) (fires_new not_given),
        (
          accepts (omega arith, (symbols 2 (omega arith), (inl (inl refl), tt))) (hears_known (inl refl)),
          (
            accepts (omega arith, ((cells, list), (light 1 0, tt))) (denies out_of_reach_0),
            (
              refuses (inr (omega arith, inr (symbols 1 (omega arith), inr (omega arith, inl (not_one, refl))))),
              (refuses (inr (omega arith, inl (λ h. omega arith, refl))), tt),
            ),
          ),
        ),
      ),
    ),
  ),
)
  where
    symbols : (s : ℕ) → s < 16 → Symbols (s ∷ 15 ∷ [])
    symbols s h = (h, (omega arith, tt))

    not_given : ◌≡◌ {A = Word} (2 ∷ 15 ∷ []) (1 ∷ 15 ∷ []) → ⊥
    not_given e = let h : ◌≡◌ {A = ℕ} 2 1 = cc in omega arith

pub no_stage : NoStage
no_stage lent = (
  refuses (inl (λ h. omega arith, refl)),
  (
    refuses (inl (λ h. omega arith, refl)),
    (
      refuses (inr (omega arith, inr (tt, inl (λ h. omega arith, refl)))),
      (accepts (omega arith, (tt, (inr (omega arith), tt))) (hears_new (λ h. h)), tt),
    ),
  ),
)
