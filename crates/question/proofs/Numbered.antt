-- The bits of a climb: as many as it weighs, each with a number of its own, and all that its clauses use.
use Rattle.std.proofs.Common.{◌≡◌, ℕ, zero, suc, ◌+◌, ◌-◌, ◌*◌, ◌<◌, ◌≤◌, Bool, true, false, cond, eqb, ltb, ◌≢◌, List, [], ◌∷◌, ◌++◌, map, length, get_or, take, Decides, sum_by, sym, refl, ap, ◌∙◌, subst, ap₂, append_assoc, append-nil, suc-mul, mul_comm, zero-mul, one-add, arith, length-append}
use lib.ListN.{length-map}
use Rattle.std.proofs.ByRecursion.{All-append, All-map, All-weaker}
use Rattle.std.proofs.lemmas.Slice.Eq.{bytes_eq-Decides}
use Rattle.std.proofs.lemmas.List.{get_or_default}
use Rattle.std.proofs.lemmas.List.Sums.{sum_by-cons}
use Rattle.std.proofs.lemmas.Bool.{and_from, and_parts, both_ways, cond_both, eq-eqb, eqb-true, ltb-true}
use Rattle.std.specs.List.{flat_map, AllByRecursion as All}
use Rattle.question.specs.Lists.{In, In.here, In.there, numbers, between}
use Rattle.question.specs.Runs.{Word, Rule, Climb}
use Rattle.question.specs.Rises.{beginnings, staying, begun, height, changing, stage, weight}
use Rattle.question.specs.Horns.{Bit, bit, base, then_read, Horn, spelled, by_staying, by_waiting, served, supplied, horns_for, horns_at, horns}
use Rattle.question.specs.Bits.{same_bit, place, Met, bits_for, bits_at, bits}
use Rattle.question.proofs.Distinct.{distinct_has}
use Rattle.question.proofs.Lists.{in_left, in_right, in_joined, map_in, in_numbers, length_numbers}
use Rattle.question.proofs.Members.{all_from_in, all_kept_if, all_joined, all_numbers, in_between, all_between}

-- ---- places

bits_decided : (b d : Bit) → Decides (same_bit b d) (b ≡ d)
bits_decided b d = (equal, λ e. subst (λ x. same_bit b x ≡ true) e reflexive)
  where
    equal : same_bit b d ≡ true → b ≡ d
    equal h =
        let p = and_parts (eqb b.at d.at) _ h in
        let q = and_parts (eqb b.goal d.goal) _ p.1 in
        let at = eqb-true _ _ p.0 in
        let goal = eqb-true _ _ q.0 in
        let begun = (bytes_eq-Decides b.begun d.begun).0 q.1 in
        λ i. record { at = at i; goal = goal i; begun = begun i }

    reflexive : same_bit b b ≡ true
    reflexive = and_from _ _ (eq-eqb b.at _ refl) (and_from _ _ (eq-eqb b.goal _ refl) ((bytes_eq-Decides b.begun _).1 refl))

-- b stands at the place p
abbrev At : Bit → List Bit → ℕ → Type 0
At b ds p = (p < length ds) × (get_or ds p b ≡ b)

at_place : (b : Bit) (ds : List Bit) → In b ds → At b ds (place b ds)
at_place b [] i = elim i [ ]
at_place b (d ∷ ds) i = step (same_bit b d) (bits_decided b d).0 (λ f. at_place b ds (later f i))
  where
    later : same_bit b d ≡ false → In b (d ∷ ds) → In b ds
    later f (here e) = absurd (both_ways _ f ((bits_decided b d).1 e))
    later f (there j) = j

    step : (t : Bool) → (t ≡ true → b ≡ d) → (t ≡ false → At b ds (place b ds)) → At b (d ∷ ds) (cond t 0 (suc (place b ds)))
    step true h k = (omega arith, sym (h refl))
    step false h k = (omega (arith, (k refl).0), (k refl).1)

pub place_below : {b : Bit} {ds : List Bit} → In b ds → place b ds < length ds
place_below i = (at_place _ _ i).0

pub places_apart : (ds : List Bit) (b d : Bit) → In b ds → In d ds → place b ds ≡ place d ds → b ≡ d
places_apart ds b d i j e =
    let p = at_place b ds i in
    sym p.1 ∙ get_or_default ds (place b ds) b d p.0 ∙ ap (λ k. get_or ds k d) e ∙ (at_place d ds j).1

place_left : (b : Bit) (ds es : List Bit) → In b ds → place b (ds ++ es) ≡ place b ds
place_left b [] es i = elim i [ ]
place_left b (d ∷ ds) es i = step (same_bit b d) (bits_decided b d).1 i (place_left b ds es)
  where
    step : (t : Bool) → (b ≡ d → t ≡ true) → In b (d ∷ ds) → (In b ds → place b (ds ++ es) ≡ place b ds) → cond t 0 (suc (place b (ds ++ es))) ≡ cond t 0 (suc (place b ds))
    step true h i k = refl
    step false h (here e) k = absurd (both_ways false refl (h e))
    step false h (there j) k = ap suc (k j)

-- The place of base 0 k among those from base 0 a on.
place_base : (k a m : ℕ) → a ≤ k → k < a + m → place (base 0 k) (map (base 0) (numbers a m)) + a ≡ k
place_base k a zero low high = absurd (omega arith)
place_base k a (suc m) low high = step (same_bit (base 0 k) (base 0 a)) _ (bits_decided (base 0 k) (base 0 a)) (λ other. place_base k (suc a) m (omega arith) (omega arith))
  where
    step : (t : Bool) (p : ℕ) → Decides t (base 0 k ≡ base 0 a) → (k ≢ a → p + suc a ≡ k) → cond t 0 (suc p) + a ≡ k
    step true p h g = let e = ap (λ b. b.goal) (h.0 refl) in omega arith
    step false p h g = let e = g (λ e. both_ways false refl (h.1 (ap (base 0) e))) in omega arith

pub place_first : (rules : List Rule) (climb : Climb) (j : ℕ) → j < length climb → place (base 0 j) (bits rules climb) ≡ j
place_first rules [] j less = absurd (omega arith)
place_first rules (k ∷ c) j less =
    let n = length (k ∷ c) in
    let i = map_in (base 0) (in_between j 0 n (omega arith) less) in
    place_left _ _ _ (in_left _ (in_left _ i)) ∙ place_left _ _ _ (in_left _ i) ∙ place_left _ _ _ i ∙ omega (arith, place_base j 0 (n - 0) (omega arith) (omega arith))

-- ---- as many as the climb weighs

module _ {A B : Type 0} (f : A → List B) where
  length_joined_same : (m : ℕ) (l : List A) → ((a : A) → length (f a) ≡ m) → length (flat_map f l) ≡ length l * m
  length_joined_same m [] h = sym (zero-mul m)
  length_joined_same m (a ∷ l) h = omega (arith, length-append (f a) (flat_map f l), h a, length_joined_same m l h, suc-mul (length l) m)

  length_joined_sums : (g h : A → ℕ) (l : List A) → ((a : A) → length (f a) ≡ g a + h a) → length (flat_map f l) ≡ sum_by g l + sum_by h l
  length_joined_sums g h [] e = refl
  length_joined_sums g h (a ∷ l) e =
      omega (arith, length-append (f a) (flat_map f l), e a, length_joined_sums g h l e, sum_by-cons g a l, sum_by-cons h a l)

length_beginnings : (l : Word) → length (beginnings l) ≡ length l - 1
length_beginnings [] = refl
length_beginnings (a ∷ []) = refl
length_beginnings (a ∷ b ∷ l) = omega (arith, length-map (beginnings (b ∷ l)) (λ u. a ∷ u), length_beginnings (b ∷ l))

in_beginnings : (l : Word) (m : ℕ) → 0 < m → m < length l → In (take m l) (beginnings l)
in_beginnings [] m low less = absurd (omega arith)
in_beginnings (a ∷ []) m low less = absurd (omega arith)
in_beginnings (a ∷ b ∷ l) zero low less = absurd (omega arith)
in_beginnings (a ∷ b ∷ l) (suc zero) low less = here refl
in_beginnings (a ∷ b ∷ l) (suc (suc m)) low less = there (map_in (λ u. a ∷ u) (in_beginnings (b ∷ l) (suc m) (omega arith) (omega arith)))

module _ (rules : List Rule) (climb : Climb) where
  length_at : (i : ℕ) → length (bits_at rules climb i) ≡ (length climb - i) * (1 + height rules (stage rules climb i)) + (length (changing rules climb i).left - 1)
  length_at i =
      let n = length climb in
      let us = begun rules (stage rules climb i) in
      let vs = beginnings (changing rules climb i).left in
      let each : length (flat_map (bits_for i n) ([] ∷ us)) ≡ suc (length us) * (n - i) =
      length_joined_same (bits_for i n) (n - i) ([] ∷ us) (λ u. length-map (between i n) (λ j. bit i j u) ∙ length_numbers i (n - i)) in
      length-append (flat_map (bits_for i n) ([] ∷ us)) (map (bit i i) vs)
      ∙ ap₂ ◌+◌ (each ∙ mul_comm (suc (length us)) (n - i) ∙ ap (λ m. (n - i) * m) (sym (one-add (length us)))) (length-map vs (bit i i) ∙ length_beginnings _)

  pub weighed : length (bits rules climb) ≡ weight rules climb
  weighed = length_joined_sums (bits_at rules climb) _ _ (numbers 0 (length climb)) length_at

  -- ---- all that the clauses use

  abbrev Listed : Bit → Type 0
  Listed b = In b (bits rules climb)

  at_listed : {b : Bit} (i : ℕ) → i < length climb → In b (bits_at rules climb i) → Listed b
  at_listed i less h = in_joined (bits_at rules climb) (in_numbers i 0 (length climb) (omega arith) (omega arith)) h

  for_listed : (i j : ℕ) (u : Word) → i ≤ j → j < length climb → In u ([] ∷ begun rules (stage rules climb i)) → Listed (bit i j u)
  for_listed i j u le less h =
      at_listed i (omega arith) (in_left _ (in_joined (bits_for i (length climb)) h (map_in (λ k. bit i k u) (in_between j i _ le less))))

  met_from : {i j : ℕ} (l : Word) → Listed (base i j) → ((u : Word) → In u (beginnings l) → Listed (bit i j u)) → Met (bits rules climb) i j l
  met_from l h k zero le = h
  met_from l h k (suc m) le = k _ (in_beginnings l (suc m) (omega arith) (omega arith))

  pub base_listed : (i j : ℕ) → i ≤ j → j < length climb → Listed (base i j)
  base_listed i j le less = for_listed i j [] le less (here refl)

  pub staying_met : (i j : ℕ) → i ≤ j → j < length climb → All (λ r. Met (bits rules climb) i j r.left) (staying rules (stage rules climb i))
  staying_met i j le less =
      all_from_in _ (staying rules (stage rules climb i)) (λ r k.
      met_from r.left (base_listed i j le less) (λ u h. for_listed i j u le less (there ((distinct_has u _).1 (in_joined _ k h)))))

  pub applying_met : (j : ℕ) → j < length climb → Met (bits rules climb) j j (changing rules climb j).left
  applying_met j less =
      met_from (changing rules climb j).left (base_listed j j (omega arith) less) (λ u h.
      at_listed j less (in_right (flat_map (bits_for j (length climb)) ([] ∷ begun rules (stage rules climb j))) (map_in (bit j j) h)))

  abbrev Known : Horn → Type 0
  Known h = All Listed (h.head ∷ h.body)

  module _ (supplier : ℕ → ℕ) where
    served_listed : (j : ℕ) → All Listed (served supplier (length climb) j)
    served_listed j =
        All-map Listed (base (suc j)) (supplied supplier (length climb) j)
        (all_kept_if _ _ (between (suc j) (length climb)) (all_between _ (suc j) (length climb) (λ k later less t. base_listed (suc j) k later less)))

    spelled_known : (b : Bit) (l w : Word) (bs : List Bit) → ((m : ℕ) → m ≤ length l - 1 → Listed (bit b.at b.goal (b.begun ++ take m l))) → All Listed bs →
        All Known (spelled b l w bs)
    spelled_known b [] w bs h k = ((rw append-nil at (h 0 (omega arith)), k), tt)
    spelled_known b (a ∷ []) w bs h k = ((rw append-nil at (h 0 (omega arith)), k), tt)
    spelled_known b (a ∷ c ∷ l) w bs h k =
        ((rw append-nil at (h 0 (omega arith)), (h 1 (omega arith), tt)), spelled_known (then_read b a) (c ∷ l) w bs (λ m le. rw append_assoc (h (suc m) (omega arith))) k)

    pub known : All Known (horns rules climb supplier)
    known =
        let n = length climb in
        all_joined (horns_at rules climb supplier) Known (numbers 0 n) (all_numbers _ 0 n (λ i low high.
        all_joined (horns_for rules climb supplier i) Known (between i n) (all_between _ i n (λ j le less.
        All-append Known (flat_map (by_staying i j) (staying rules (stage rules climb i))) _
        (all_joined (by_staying i j) Known _ (All-weaker _ _ (λ r met. spelled_known (base i j) r.left _ _ met (base_listed i j le less, tt)) _ (staying_met i j le less)))
        (cond_both (ltb i j) (by_waiting i j) _ (All Known)
        (λ t. ((base_listed i j le less, (base_listed (suc i) j (ltb-true i j t) less, tt)), tt))
        (λ f. spelled_known (base j j) (changing rules climb j).left _ _ (applying_met j less) (served_listed j)))))))
