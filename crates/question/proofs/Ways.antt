-- Each choice of suppliers has a number.
use Rattle.std.proofs.Common.{◌≡◌, ℕ, zero, suc, ◌+◌, ◌*◌, ◌/◌, ◌%◌, ◌<◌, ◌≤◌, List, [], ◌∷◌, length, get_or, take, Option, sym, refl, ap, ◌∙◌, subst, arith, length-take-le}
use Rattle.std.proofs.lemmas.List.{take-map}
use Rattle.question.specs.Coding.{supplier_of, suppliers_of}
use Rattle.question.specs.Ways.{Supplies, ways}

-- Way number w to supply four rules.
abbrev pub four : ℕ → List ℕ
four w = 0 ∷ w % 2 ∷ w / 2 % 3 ∷ w / 6 ∷ []

-- Way number w to supply n rules.
abbrev pub way : ℕ → ℕ → List ℕ
way n w = take n (four w)

-- The same, of suppliers of the code.
pub way_is : (n w : ℕ) (suppliers : List (Option ℕ)) → suppliers_of suppliers ≡ four w → suppliers_of (take n suppliers) ≡ way n w
way_is n w suppliers e = sym (take-map supplier_of n suppliers) ∙ ap (take n) e

take_below : (n : ℕ) (l : List ℕ) (j : ℕ) → get_or (take n l) j 0 ≤ get_or l j 0
take_below zero l j = omega arith
take_below (suc n) [] j = omega arith
take_below (suc n) (a ∷ l) zero = omega arith
take_below (suc n) (a ∷ l) (suc j) = take_below n l j

four_earlier : (w : ℕ) → w < 24 → (j : ℕ) → get_or (four w) j 0 ≤ j
four_earlier w h zero = omega arith
four_earlier w h (suc zero) = omega arith
four_earlier w h (suc (suc zero)) = omega arith
four_earlier w h (suc (suc (suc zero))) = omega arith
four_earlier w h (suc (suc (suc (suc j)))) = omega arith

ways_few : (n : ℕ) → n ≤ 4 → ways n ≤ 24
ways_few zero l = omega arith
ways_few (suc zero) l = omega arith
ways_few (suc (suc zero)) l = omega arith
ways_few (suc (suc (suc zero))) l = omega arith
ways_few (suc (suc (suc (suc zero)))) l = omega arith
ways_few (suc (suc (suc (suc (suc n))))) l = absurd (omega arith)

pub way_supplies : (n w : ℕ) → n ≤ 4 → w < ways n → Supplies n (way n w)
way_supplies n w few l = record { each = length-take-le n (four w) few; earlier = λ j. omega (arith, take_below n (four w) j, four_earlier w (omega (arith, ways_few n few)) j) }

numbered : (s : List ℕ) → length s ≤ 4 → ((j : ℕ) → get_or s j 0 ≤ j) → (w : ℕ) × (w < ways (length s)) × (way (length s) w ≡ s)
numbered [] l e = (0, omega arith, refl)
numbered (a ∷ []) l e = let p : 0 ≡ a = omega (arith, e 0) in (0, omega arith, cc)
numbered (a ∷ (b ∷ [])) l e =
    let p : 0 ≡ a = omega (arith, e 0) in
    let q : b % 2 ≡ b = omega (arith, e 1) in
    (b, omega (arith, e 1), cc)
numbered (a ∷ (b ∷ (c ∷ []))) l e =
    let p : 0 ≡ a = omega (arith, e 0) in
    let q : (b + 2 * c) % 2 ≡ b = omega (arith, e 1) in
    let half : (b + 2 * c) / 2 ≡ c = omega (arith, e 1) in
    let r : (b + 2 * c) / 2 % 3 ≡ c = rw half (omega (arith, e 2)) in
    (b + 2 * c, omega (arith, e 1, e 2), cc)
numbered (a ∷ (b ∷ (c ∷ (d ∷ [])))) l e =
    let p : 0 ≡ a = omega (arith, e 0) in
    let q : (b + 2 * c + 6 * d) % 2 ≡ b = omega (arith, e 1) in
    let half : (b + 2 * c + 6 * d) / 2 ≡ c + 3 * d = omega (arith, e 1) in
    let r : (b + 2 * c + 6 * d) / 2 % 3 ≡ c = rw half (omega (arith, e 2)) in
    let t : (b + 2 * c + 6 * d) / 6 ≡ d = omega (arith, e 1, e 2) in
    (b + 2 * c + 6 * d, omega (arith, e 1, e 2, e 3), cc)
numbered (a ∷ (b ∷ (c ∷ (d ∷ (f ∷ s))))) l e = absurd (omega arith)

-- No way below k meets X.
pub record NoneBelow (X : List ℕ → Type 0) (n k : ℕ) : Type 0 where
  pub below : (w : ℕ) → w < k → X (way n w) → ⊥

pub none_left : {X : List ℕ → Type 0} {n k : ℕ} → NoneBelow X n k → n ≤ 4 → ways n ≤ k → (s : List ℕ) → Supplies n s → X s → ⊥
none_left {X} {n} {k} none l all s h x =
    let t : (w : ℕ) × (w < ways n) × (way n w ≡ s) = subst (λ (m : ℕ). (w : ℕ) × (w < ways m) × (way m w ≡ s)) h.each (numbered s (omega (arith, h.each)) h.earlier) in
    none.below t.0 (omega (arith, t.1)) (subst X (sym t.2) x)
