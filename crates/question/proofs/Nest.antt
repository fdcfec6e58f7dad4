-- Four nested loops, each with the numbers for one place of a climb of n rules.
use Rattle.std.proofs.Common.{◌≡◌, ℕ, suc, ◌+◌, ◌-◌, ◌<◌, ◌≤◌, cond, ltb, ◌≢◌, List, [], ◌∷◌, ◌++◌, length, take, drop, sym, refl, ◌∙◌, subst, inl, inr, append_assoc, arith, length-append, below_more}
use borrow.Author.Clash.{clash}
use lib.Seq.{take-nil}
use Rattle.std.specs.List.{AllByRecursion as All}
use Rattle.question.specs.Runs.{Rule, Climb, rule}
use Rattle.question.specs.Rises.{Rise}
use Rattle.question.specs.Search.{Passes}
use Rattle.question.proofs.Places.{rise_end, rise_on, Inside, inside}

pub longer : (d : Climb) (k : ℕ) → length (d ++ k ∷ []) ≡ suc (length d)
longer d k = simp length-append (omega arith)

module _ (rules : List Rule) (g : ℕ) (serves : Climb → Type 0) (n : ℕ) where
  -- A try is a list of four numbers: those of a climb of n rules, and then zeros.
  -- Where the numbers d have been chosen, and lead to the stage p, the numbers x after them make a try that leads to the goal and serves.
  pub record Open (d : Climb) (p : ℕ) (x : Climb) : Type 0 where
    pub four : length (d ++ x) ≡ 4
    pub rises : Rise rules p (take (n - length d) x) g
    pub blank : All (λ k. k ≡ 0) (drop (n - length d) x)
    pub serving : serves (take n (d ++ x))

  -- No number below k makes such a try.
  pub record Clear (d : Climb) (p k : ℕ) : Type 0 where
    pub below : (j : ℕ) → j < k → (x : Climb) → Open d p (j ∷ x) → ⊥

  abbrev pub Passing : Climb → ℕ → ℕ → ℕ → Type 0
  Passing d = Passes rules (ltb (length d) n)

  -- The numbers that may be chosen after d.
  abbrev pub choices : Climb → ℕ
  choices d = cond (ltb (length d) n) (length rules) 1

  one_stage : (d : Climb) {p k q r : ℕ} → Passing d p k q → Passing d p k r → q ≡ r
  one_stage d {q = q} {r = r} f h = by (inside n (length d))
    where
      by : Inside n (length d) → q ≡ r
      by (inl t) = sym (f.leads t.0).0.to ∙ (h.leads t.0).0.to
      by (inr t) = sym (f.stays t.0) ∙ h.stays t.0

  module _ {d : Climb} {p k : ℕ} {x : Climb} (o : Open d p (k ∷ x)) where
    pub chosen : k < choices d
    chosen = by (inside n (length d))
      where
        by : Inside n (length d) → k < choices d
        by (inl t) = rw t.0 (rise_on rules (rw t.1 at o.rises)).0.listed
        by (inr t) = rw t.0 (let z = (rw t.1 at o.blank).0 in omega arith)

    goes_on : (q : ℕ) × Passing d p k q × Open (d ++ k ∷ []) q x
    goes_on = by (inside n (length d))
      where
        on : (q : ℕ) → Rise rules q (take (n - suc (length d)) x) g → All (λ j. j ≡ 0) (drop (n - suc (length d)) x) → Open (d ++ k ∷ []) q x
        on q r b = record { four = rw append_assoc o.four; rises = rw longer r; blank = rw longer b; serving = rw append_assoc o.serving }

        by : Inside n (length d) → (q : ℕ) × Passing d p k q × Open (d ++ k ∷ []) q x
        by (inl t) =
            let r = rise_on rules (rw t.1 at o.rises) in
            ((rule rules k).to, record { leads = λ _. (r.0, r.1); stays = λ e. clash _ t.0 e }, on (rule rules k).to r.2 (rw t.1 at o.blank))
        by (inr t) =
            (p, record { leads = λ e. clash _ e t.0; stays = λ _. refl }, on p (rw t.2 (rw t.1 at o.rises)) (rw t.2 (rw t.1 at o.blank).1))

    pub after : {q : ℕ} → Passing d p k q → Open (d ++ k ∷ []) q x
    after f = let t = goes_on in subst (λ s. Open (d ++ k ∷ []) s x) (one_stage d t.1 f) t.2

  -- The turns of a loop.

  clear_more : {d : Climb} {p k : ℕ} → Clear d p k → ((x : Climb) → Open d p (k ∷ x) → ⊥) → Clear d p (k + 1)
  clear_more c h = record { below = below_more _ _ c.below h }

  pub clear_unfit : {d : Climb} {p k : ℕ} → Clear d p k → ((q : ℕ) → Passing d p k q → ⊥) → Clear d p (k + 1)
  clear_unfit c f = clear_more c (λ x o. let t = goes_on o in f t.0 t.1)

  -- The loop inside has tried the m numbers that there are.
  pub clear_inside : {d : Climb} {p k q m : ℕ} → Clear d p k → Passing d p k q → Clear (d ++ k ∷ []) q m → choices (d ++ k ∷ []) ≤ m → length d < 3 → Clear d p (k + 1)
  clear_inside {d} {p} {k} c f e l few = clear_more c try
    where
      try : (x : Climb) → Open d p (k ∷ x) → ⊥
      try [] o = omega (arith, simp length-append at o.four)
      try (j ∷ x) o = let i = after o f in let h = chosen i in e.below j (omega arith) x i

  pub clear_away : {d : Climb} {p k q : ℕ} → Clear d p k → Passing d p k q → q ≢ g → length d ≡ 3 → Clear d p (k + 1)
  clear_away {d} {p} {k} {q} c f away last = clear_more c try
    where
      try : (x : Climb) → Open d p (k ∷ x) → ⊥
      try [] o = away (rise_end rules (rw take-nil at (after o f).rises))
      try (j ∷ x) o = omega (arith, simp length-append at o.four)

  pub clear_unserved : {d : Climb} {p k : ℕ} → Clear d p k → (serves (take n (d ++ k ∷ [])) → ⊥) → length d ≡ 3 → Clear d p (k + 1)
  clear_unserved {d} {p} {k} c no_use last = clear_more c try
    where
      try : (x : Climb) → Open d p (k ∷ x) → ⊥
      try [] o = no_use o.serving
      try (j ∷ x) o = omega (arith, simp length-append at o.four)
