-- A pass over the marks, which takes some of them into a list.
use Rattle.std.proofs.Common.{◌≡◌, ℕ, zero, suc, ◌+◌, ◌<◌, Bool, true, false, cond, eqb, ◌≢◌, List, [], ◌∷◌, length, get_or, set, Decides, sym, refl, ap, ◌∙◌, subst, ⊎_elim, arith}
use mir.Val.{bool_byte}
use Rattle.std.proofs.lemmas.List.{get_or-set_same, get_or-set_other}
use Rattle.std.proofs.lemmas.Bool.{cases_eq, true≢false, false≢true, eq-eqb, cond-true}
use Rattle.model.specs.Closing.{Sound, missing}
use Rattle.std.specs.Fn.{Mut, Called}
use Rattle.std.specs.Bool.{MatchBool}
use Rattle.std.specs.Iterator.{ChecksAny}
use Rattle.std.proofs.lemmas.List.Folds.{none_from_all_within}
use Rattle.std.specs.List.{HoldsAt}
use Rattle.std.specs.Prelude.{Option}
use Rattle.std.proofs.lemmas.Iterator.{YieldsList, cases_from_any}
use Rattle.model.specs.Sieves.{Wanted}

-- One mark more is in the list.
pub missing_set : (list : List ℕ) (m : ℕ) → m < length list → get_or list m 0 ≡ 0 → suc (missing (set list m 1)) ≡ missing list
missing_set [] m h e = absurd (omega arith)
missing_set (b ∷ list) zero h e = sym (cond-true (eqb b 0) _ _ (eq-eqb b 0 e))
missing_set (b ∷ list) (suc m) h e = elim (eqb b 0) as (λ x. suc (cond x (suc (missing (set list m 1))) (missing (set list m 1))) ≡ cond x (suc (missing list)) (missing list))
    [ true ↦ ap suc (missing_set list m (omega arith) e) | false ↦ missing_set list m (omega arith) e ]

-- The list after the byte at m is written: at m it has that byte, and elsewhere it is as it was.
module _ (list : List ℕ) (m v : ℕ) (within : m < length list) where
  pub at_written : (P : ℕ → Type 0) (k : ℕ) → (k ≡ m → P v) → (k ≢ m → P (get_or list k 0)) → P (get_or (set list m v) k 0)
  at_written P k here other =
      ⊎_elim (λ e. subst P (sym (ap (λ j. get_or (set list m v) j 0) e ∙ get_or-set_same list m v 0 within)) (here e)) (λ ne. subst P (sym (get_or-set_other list m k v 0 ne)) (other ne)) (cases_eq k m)

  pub from_written : (P : ℕ → Type 0) (k : ℕ) → k ≢ m → P (get_or (set list m v) k 0) → P (get_or list k 0)
  from_written P k ne p = subst P (get_or-set_other list m k v 0 ne) p

module _ (R : ℕ → Type 0) (N : ℕ → ℕ → ℕ) (K : ℕ → Type 0) where
  -- The marks below m are seen; `changed` says whether one came in.
  pub record Pass (before list : List ℕ) (m : ℕ) (changed : Bool) : Type 0 where
    pub sound : Sound R list
    pub grows : (k : ℕ) → Wanted before k → Wanted list k
    pub same : changed ≡ false → list ≡ before
    pub closed : changed ≡ false → (k s : ℕ) → k < m → K s → Wanted list (N k s) → Wanted list k
    pub fewer : changed ≡ true → missing list < missing before

  -- Mark m stays as it is.
  pub pass_skip : (before list : List ℕ) (m : ℕ) (changed : Bool) → Pass before list m changed → ((s : ℕ) → K s → Wanted list (N m s) → Wanted list m) → Pass before list (m + 1) changed
  pass_skip before list m changed p here = record {
    sound = p.sound;
    grows = p.grows;
    same = p.same;
    closed = λ e k s lt is t. ⊎_elim (λ q. subst (Wanted list) (sym q) (here s is (subst (λ x. Wanted list (N x s)) q t))) (λ ne. p.closed e k s (omega arith) is t) (cases_eq k m);
    fewer = p.fewer;
  }

  -- Mark m comes in.
  pub pass_set : ((k s : ℕ) → K s → R (N k s) → R k) → (before list : List ℕ) (m : ℕ) (changed : Bool) → Pass before list m changed → m < length list → get_or list m 0 ≡ 0
      → (s : ℕ) → K s → N m s < 2048 → Wanted list (N m s) → Pass before (set list m 1) (m + 1) true
  pass_set back before list m changed p within off s is lt t =
      let one = missing_set list m within off in
      record {
        sound = λ k below h. ⊎_elim (λ e. subst R (sym e) (back m s is (p.sound (N m s) lt t))) (λ ne. p.sound k below (from_written list m 1 within (λ b. 0 < b) k ne h)) (cases_eq k m);
        grows = λ k h. at_written list m 1 within (λ b. 0 < b) k (λ _. omega arith) (λ _. p.grows k h);
        same = λ e. absurd (true≢false e);
        closed = λ e. absurd (true≢false e);
        fewer = λ _. elim changed as (λ c. (c ≡ false → list ≡ before) → (c ≡ true → missing list < missing before) → missing (set list m 1) < missing before)
            [ true ↦ λ _ f. omega (arith, f refl) | false ↦ λ e _. omega (arith, ap missing (e refl)) ] p.same p.fewer;
      }

-- One place more of a list that is written from its front.
pub written_more : (Q : ℕ → ℕ → Type 0) (list : List ℕ) (m v : ℕ) → m < length list → ((k : ℕ) → k < m → Q k (get_or list k 0)) → Q m v → (k : ℕ) → k < m + 1 → Q k (get_or (set list m v) k 0)
written_more Q list m v within below here k lt =
    at_written list m v within (Q k) k (λ e. subst (λ j. Q j v) (sym e) here) (λ ne. below k (omega arith))

-- A test's answer as a byte of such a list.
pub byte_tells : (b : Bool) (v : ℕ) → v ≡ bool_byte b → Decides b (0 < v)
byte_tells true v e = (λ _. omega arith, λ _. refl)
byte_tells false v e = (λ t. absurd (false≢true t), λ h. absurd (omega arith))

decides_from_cases : {P Q : Type 0} (r : Bool) → MatchBool r P Q → (P → Q → ⊥) → Decides r P
decides_from_cases true p apart = (λ _. p, λ _. refl)
decides_from_cases false q apart = (λ t. absurd (false≢true t), λ p. absurd (apart p q))

-- `any` where the test decides P, over a chain that gives the list.
pub any_decides : {S A B F : Type 0} {steps : S → Option A → S → Type 0} {v : A → B} {g : Mut F (A × Unit {0}) Bool} {s : S} {all : List B} (P : B → Type 0) (u : S) (f : F) (r : Bool)
    → ChecksAny steps g s f r u → YieldsList steps v s all → ((x : A) (b : Bool) (q : F) → Called g f (x, tt) b q → (q ≡ f) × Decides b (P (v x)))
    → Decides r ((k : ℕ) × (k < length all) × HoldsAt P all k)
any_decides {all = all} P u f r ran road acts =
    decides_from_cases r
    (cases_from_any u f r P (λ x. P x → ⊥) ran road
    (λ x q k. (acts x true q k).1.0 refl)
    (λ x q k. ((acts x false q k).0, λ p. absurd (false≢true ((acts x false q k).1.1 p)))))
    (λ some none. none_from_all_within P all none some)
