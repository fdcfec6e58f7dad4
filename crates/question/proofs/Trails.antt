-- Where the loops leave off: at the first climb that serves, or when all of one length are tried.
use Rattle.std.proofs.Common.{◌≡◌, ℕ, zero, suc, ◌+◌, ◌-◌, ◌<◌, ◌≤◌, ◌⊎◌, List, [], ◌∷◌, ◌++◌, length, take, replicate, refl, ◌∙◌, subst, inl, inr, le_of_suc-le-suc, eq-or-lt_of_le, add-one, arith, length-append, length-take-le, take_at, drop_at}
use native.Mathlib.Nat.{sub-zero}
use lib.ListN.{length-replicate}
use lib.Seq.{take-nil}
use Rattle.std.specs.List.{AllByRecursion as All}
use Rattle.question.specs.Runs.{Rule, Climb}
use Rattle.question.specs.Rises.{Rise, Rise.none, Rise.then}
use Rattle.question.specs.Verdicts.{Lower, Earlier, Earliest}
use Rattle.question.specs.Search.{ShortRise}
use Rattle.question.proofs.Places.{Inside, inside}
use Rattle.question.proofs.Nest.{longer, Open, Clear, Passing, choices, chosen, after}

module _ (rules : List Rule) (g : ℕ) (serves : Climb → Type 0) (n : ℕ) where
  -- The numbers x lead from p to the goal, and each loop is clear below its number.
  pub data Trail : Climb → ℕ → Climb → Type 0 where
    here : {d : Climb} {p : ℕ} → p ≡ g → Trail d p []
    by : {d : Climb} {p k q : ℕ} {x : Climb} → Clear rules g serves n d p k → Passing rules g serves n d p k q → Trail (d ++ k ∷ []) q x → Trail d p (k ∷ x)

  pub trail_rises : {d : Climb} {p : ℕ} {x : Climb} → Trail d p x → Rise rules p (take (n - length d) x) g
  trail_rises {p = p} (here e) = rw take-nil (subst (λ q. Rise rules p [] q) e none)
  trail_rises {d} {p} (by {k = k} {q = q} {x = x} c f w) = at_place (inside n (length d)) (rw longer at (trail_rises w))
    where
      at_place : Inside n (length d) → Rise rules q (take (n - suc (length d)) x) g → Rise rules p (take (n - length d) (k ∷ x)) g
      at_place (inl t) r = rw t.1 (then (f.leads t.0).0 (f.leads t.0).1 r)
      at_place (inr t) r = rw t.1 (rw (f.stays t.0) (rw t.2 at r))

  trail_lower : {d : Climb} {p : ℕ} {x : Climb} → Trail d p x → (y : Climb) → Lower y x → Open rules g serves n d p y → ⊥
  trail_lower (here e) [] h o = h
  trail_lower (here e) (j ∷ y) h o = h
  trail_lower (by c f w) [] h o = h
  trail_lower (by c f w) (j ∷ y) (inl h) o = c.below j h y o
  trail_lower {d} {p} (by c f w) (j ∷ y) (inr h) o = trail_lower w y h.1 (after rules g serves n (subst (λ k. Open rules g serves n d p (k ∷ y)) h.0 o) f)

-- The try of a climb.
abbrev filled : ℕ → Climb → Climb
filled n c = c ++ replicate (4 - n) 0

filled_lower : (n : ℕ) (c x z : Climb) → length c ≡ n → Lower c (take n x) → Lower (c ++ z) x
filled_lower zero [] x z l h = absurd h
filled_lower (suc n) [] x z l h = absurd (omega arith)
filled_lower zero (j ∷ c) x z l h = absurd (omega arith)
filled_lower (suc n) (j ∷ c) [] z l h = h
filled_lower (suc n) (j ∷ c) (k ∷ x) z l (inl h) = inl h
filled_lower (suc n) (j ∷ c) (k ∷ x) z l (inr h) = inr (h.0, filled_lower n c x z (omega arith) h.1)

zeros : (m : ℕ) → All (λ (k : ℕ). k ≡ 0) (replicate m 0)
zeros zero = tt
zeros (suc m) = (refl, zeros m)

module _ (rules : List Rule) (p g : ℕ) (serves : Climb → Type 0) (n : ℕ) where
  filled_open : (c : Climb) → length c ≡ n → ShortRise rules p g serves c → Open rules g serves n [] p (filled n c)
  filled_open c l h = record {
    four = simp (length-append, length-replicate) (omega (arith, h.short));
    rises = rw (sub-zero, take_at c (replicate (4 - n) 0) n l) h.rises;
    blank = rw (sub-zero, drop_at c (replicate (4 - n) 0) n l) (zeros (4 - n));
    serving = rw (take_at c (replicate (4 - n) 0) n l) h.serving;
  }

  -- The loops have tried each climb of n rules.
  pub none_longer : {m : ℕ} → ((c : Climb) → length c < n → ShortRise rules p g serves c → ⊥) → Clear rules g serves n [] p m → choices rules g serves n [] ≤ m →
      (c : Climb) → length c < n + 1 → ShortRise rules p g serves c → ⊥
  none_longer {m} shorter clear all c l h = by (eq-or-lt_of_le (le_of_suc-le-suc (rw add-one at l)))
    where
      try : (x : Climb) → Open rules g serves n [] p x → ⊥
      try [] o = omega (arith, o.four)
      try (k ∷ x) o = let h = chosen rules g serves n o in clear.below k (omega arith) x o

      by : (length c ≡ n) ⊎ (length c < n) → ⊥
      by (inl e) = try (filled n c) (filled_open c e h)
      by (inr s) = shorter c s h

  -- The loops have come to a climb that serves.
  pub first_found : {x : Climb} → length x ≡ 4 → n ≤ 4 → ((c : Climb) → length c < n → ShortRise rules p g serves c → ⊥) →
      Trail rules g serves n [] p x → serves (take n x) → Earliest (ShortRise rules p g serves) (take n x)
  first_found {x} l few shorter trail s = record { holds = record { rises = rw sub-zero at (trail_rises rules g serves n trail); short = omega (arith, long); serving = s }; first = first }
    where
      long : length (take n x) ≡ n
      long = length-take-le n x (omega arith)

      first : (c : Climb) → ShortRise rules p g serves c → Earlier c (take n x) → ⊥
      first c h (inl e) = shorter c (omega (arith, long)) h
      first c h (inr e) =
          let same : length c ≡ n = e.0 ∙ long in
          trail_lower rules g serves n trail (filled n c) (filled_lower n c x _ same e.1) (filled_open c same h)
