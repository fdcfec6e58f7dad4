-- The places of a climb: within it a rule leads to the next stage, and past its end the stage stays.
use Rattle.std.proofs.Common.{◌≡◌, ℕ, zero, suc, ◌-◌, ◌<◌, ◌≤◌, Bool, true, false, ltb, ◌≢◌, ◌⊎◌, List, [], ◌∷◌, length, get_or, Decides, MatchOption, sym, refl, ap, ◌∙◌, arith}
use Rattle.std.specs.Bool.{then_some}
use borrow.Author.Clash.{clash}
use lib.ListN.{length-map}
use Rattle.std.proofs.lemmas.Bool.Decides.{nat_tests}
use Rattle.question.specs.Runs.{Rule, Climb, rule, Leads}
use Rattle.question.specs.Rises.{Rise, Rise.none, Rise.then}
use Rattle.question.specs.Rules.{rule_of, rules_of, Climbing}
use Rattle.question.specs.Search.{Changes, Passes}
use Rattle.question.specs.declared.rule.Rule.{Rule as Held}
use Rattle.question.proofs.Coded.{rule_at}

-- In the code the rule number k is r.
module _ (rules : List Held) {within : Bool} (inside : within ≡ true) (p k : ℕ) (r : Held) (listed : k < length rules) (is : r ≡ get_or rules k r) where
  fits : Changes (rule_of r) p → Passes (rules_of rules) within p k r.to
  fits (from, changes) =
      let e = rule_at rules k r listed is in
      record {
        leads = λ _. (record { listed = rw length-map listed; from = ap (λ x. x.from) e ∙ from; to = ap (λ x. x.to) e }, λ h. changes (sym h));
        stays = λ h. clash _ inside h;
      }

  fits_only : (q : ℕ) → Passes (rules_of rules) within p k q → Changes (rule_of r) p
  fits_only q f =
      let e = rule_at rules k r listed is in
      let (leads, changes) = f.leads inside in
      (sym (ap (λ x. x.from) e) ∙ leads.from, λ h. changes (sym h ∙ sym (ap (λ x. x.to) e) ∙ leads.to))

  -- Whether the rule changes the stage says whether it fits.
  pub fits_if : (t : Bool) → Decides t (Changes (rule_of r) p) → MatchOption (then_some t r.to) ((q : ℕ) → Passes (rules_of rules) within p k q → ⊥) (λ q. Passes (rules_of rules) within p k q)
  fits_if true d = fits (d.0 refl)
  fits_if false d = λ q f. clash _ (d.1 (fits_only q f)) refl

rise_listed : {rules : List Rule} {p g : ℕ} {c : Climb} → Rise rules p c g → (i : ℕ) → i < length c → get_or c i 0 < length rules
rise_listed none i h = absurd (omega arith)
rise_listed (then leads changes r) zero h = leads.listed
rise_listed (then leads changes r) (suc i) h = rise_listed r i (omega arith)

-- A short rise can be put to the question.
pub rise_climbing : (rules : List Held) (p g : ℕ) → length rules ≤ 32 → (c : Climb) → Rise (rules_of rules) p c g → length c ≤ 4 → Climbing rules c
rise_climbing rules p g room c r few = record { few = few; there = λ i h. omega (arith, rise_listed r i h, length-map rules rule_of); room = room }

module _ (rules : List Rule) where
  pub rise_end : {p g : ℕ} → Rise rules p [] g → p ≡ g
  rise_end none = refl

  pub rise_on : {k p g : ℕ} {c : Climb} → Rise rules p (k ∷ c) g →
      Leads rules k p (rule rules k).to × (p ≢ (rule rules k).to) × Rise rules (rule rules k).to c g
  rise_on {p = p} (then a changes r) = (record { listed = a.listed; from = a.from; to = refl }, rw a.to changes, rw a.to r)

-- Whether the place i is within a climb of n rules.
abbrev pub Inside : ℕ → ℕ → Type 0
Inside n i = ((ltb i n ≡ true) × (n - i ≡ suc (n - suc i))) ⊎ ((ltb i n ≡ false) × (n - i ≡ 0) × (n - suc i ≡ 0))

pub inside : (n i : ℕ) → Inside n i
inside n i = grind (arith, nat_tests)
