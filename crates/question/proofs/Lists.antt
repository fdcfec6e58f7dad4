-- Laws of `In`, `Once`, `flat_map`, `filter` and `numbers`.
use Rattle.std.proofs.Common.{◌≡◌, ℕ, zero, suc, ◌+◌, ◌<◌, ◌≤◌, Bool, true, false, cond, ◌≢◌, ◌⊎◌, List, [], ◌∷◌, ◌++◌, map, length, filter, sym, refl, ap, ◌∙◌, subst, inl, inr, ⊎_elim, arith}
use native.Mathlib.Decide.{ℕ_discrete}
use Rattle.std.specs.List.{flat_map}
use Rattle.question.specs.Lists.{In, In.here, In.there, Once, numbers}

module _ {A : Type 0} where
  -- A list without one element that it has.
  record Less (a : A) (l : List A) : Type 0 where
    pub rest : List A
    pub one : length l ≡ suc (length rest)
    pub others : (b : A) → b ≢ a → In b l → In b rest

  less : {a : A} {l : List A} → In a l → Less a l
  less {a} (here {b = c} {rest = l} e) = record { rest = l; one = refl; others = other }
    where
      other : (b : A) → b ≢ a → In b (c ∷ l) → In b l
      other b n (here f) = absurd (n (f ∙ sym e))
      other b n (there i) = i
  less {a} (there {b = c} {rest = l} h) = let t = less h in record { rest = c ∷ t.rest; one = ap suc t.one; others = other t }
    where
      other : (t : Less a l) (b : A) → b ≢ a → In b (c ∷ l) → In b (c ∷ t.rest)
      other t b n (here f) = here f
      other t b n (there i) = there (t.others b n i)

  -- As many pigeons as holes at most: a list in which no element stands twice is no longer than a list that has all its elements.
  pub once_short : (l m : List A) → Once l → ((a : A) → In a l → In a m) → length l ≤ length m
  once_short [] m o h = omega arith
  once_short (a ∷ l) m o h =
      let t = less (h a (here refl)) in
      let shorter = once_short l t.rest o.1 (λ b i. t.others b (λ e. o.0 (subst (λ x. In x l) e i)) (h b (there i))) in
      omega (arith, t.one)

module _ {A : Type 0} {a : A} where
  pub in_left : {l : List A} (m : List A) → In a l → In a (l ++ m)
  in_left m (here e) = here e
  in_left m (there h) = there (in_left m h)

  pub in_right : (l : List A) {m : List A} → In a m → In a (l ++ m)
  in_right [] h = h
  in_right (b ∷ l) h = there (in_right l h)

  pub in_either : (l : List A) {m : List A} → In a (l ++ m) → In a l ⊎ In a m
  in_either [] h = inr h
  in_either (b ∷ l) (here e) = inl (here e)
  in_either (b ∷ l) (there h) = ⊎_elim (λ i. inl (there i)) inr (in_either l h)

module _ {A : Type 0} where
  pub once_push : (l : List A) (a : A) → Once l → (In a l → ⊥) → Once (l ++ (a ∷ []))
  once_push [] a o n = (λ i. elim i [ ], tt)
  once_push (b ∷ l) a o n = (λ i. ⊎_elim o.0 last (in_either l i), once_push l a o.1 (λ i. n (there i)))
    where
      last : In b (a ∷ []) → ⊥
      last (here e) = n (here (sym e))
      last (there i) = elim i [ ]

  module _ (t : A → Bool) {a : A} where
    pub in_kept_by : {l : List A} → In a l → t a ≡ true → In a (filter t l)
    in_kept_by (here e) h = rw (sym (ap t e) ∙ h) (here e)
    in_kept_by (there {b = b} {rest = l} i) h = by (t b) (in_kept_by i h)
      where
        by : (x : Bool) → In a (filter t l) → In a (cond x (b ∷ filter t l) (filter t l))
        by true j = there j
        by false j = j

    pub from_kept_by : (l : List A) → In a (filter t l) → In a l × (t a ≡ true)
    from_kept_by [] i = elim i [ ]
    from_kept_by (b ∷ l) i = by (t b) refl i (from_kept_by l)
      where
        by : (x : Bool) → t b ≡ x → In a (cond x (b ∷ filter t l) (filter t l)) → (In a (filter t l) → In a l × (t a ≡ true)) → In a (b ∷ l) × (t a ≡ true)
        by true e (here f) r = (here f, ap t f ∙ e)
        by true e (there j) r = let q = r j in (there q.0, q.1)
        by false e j r = let q = r j in (there q.0, q.1)

module _ {A B : Type 0} {b : B} where
  pub in_map : (f : A → B) (l : List A) → In b (map f l) → (a : A) × In a l × (b ≡ f a)
  in_map f [] i = elim i [ ]
  in_map f (a ∷ l) (here e) = (a, here refl, e)
  in_map f (a ∷ l) (there i) = let t = in_map f l i in (t.0, there t.1, t.2)

  pub in_joined : (f : A → List B) {a : A} {l : List A} → In a l → In b (f a) → In b (flat_map f l)
  in_joined f (here {rest = l} e) i = in_left (flat_map f l) (subst (λ d. In b (f d)) e i)
  in_joined f (there {b = c} h) i = in_right (f c) (in_joined f h i)

  pub from_joined : (f : A → List B) (l : List A) → In b (flat_map f l) → (a : A) × In a l × In b (f a)
  from_joined f [] i = elim i [ ]
  from_joined f (a ∷ l) i = ⊎_elim (λ j. (a, here refl, j)) (λ j. let t = from_joined f l j in (t.0, there t.1, t.2)) (in_either (f a) i)

pub map_in : {A B : Type 0} (f : A → B) {a : A} {l : List A} → In a l → In (f a) (map f l)
map_in f (here e) = here (ap f e)
map_in f (there i) = there (map_in f i)

pub in_numbers : (k a m : ℕ) → a ≤ k → k < a + m → In k (numbers a m)
in_numbers k a zero low high = absurd (omega arith)
in_numbers k a (suc m) low high = step (ℕ_discrete k a) (λ n. in_numbers k (suc a) m (omega arith) (omega arith))
  where
    step : Dec (k ≡ a) → (k ≢ a → In k (numbers (suc a) m)) → In k (numbers a (suc m))
    step (yes e) rest = here e
    step (no n) rest = there (rest n)

pub length_numbers : (a m : ℕ) → length (numbers a m) ≡ m
length_numbers a zero = refl
length_numbers a (suc m) = ap suc (length_numbers (suc a) m)
