-- Over any rules, whether they fall or not: a rise with many rules more than there are goes round, and without that round it is a rise of five rules or more.
use Rattle.std.proofs.Common.{◌≡◌, ℕ, zero, suc, ◌+◌, ◌<◌, ◌≤◌, ◌⊎◌, ◌↔◌, List, [], ◌∷◌, ◌++◌, length, take, sym, refl, ap, ◌∙◌, subst, inl, inr, arith}
use native.Mathlib.Decide.{ℕ_discrete, dec_lt}
use Rattle.std.proofs.lemmas.List.{length-append, length-take-le}
use Rattle.question.specs.Lists.{In, In.here, In.there, Once, numbers}
use Rattle.question.specs.Runs.{Rule, Climb, rule}
use Rattle.question.specs.Rises.{Rise, Rise.none, Rise.then, weight, weight_limit, Heavy}
use Rattle.question.specs.Rounds.{Over, heaviest}
use Rattle.question.proofs.Lists.{once_short, in_numbers, length_numbers}
use Rattle.question.proofs.Rounds.{rounds_find, over}
use Rattle.question.proofs.Weights.{long_weighs}

-- k stands among the first n numbers of c.
record Found (k n : ℕ) (c : Climb) : Type 0 where
  pub before : Climb
  pub after : Climb
  pub parts : c ≡ before ++ k ∷ after
  pub early : length before < n

find : (k n : ℕ) (c : Climb) → (In k (take n c) → ⊥) ⊎ Found k n c
find k zero c = inl (λ i. elim i [ ])
find k (suc n) [] = inl (λ i. elim i [ ])
find k (suc n) (j ∷ c) = by (ℕ_discrete k j) (find k n c)
  where
    neither : (k ≡ j → ⊥) → (In k (take n c) → ⊥) → In k (j ∷ take n c) → ⊥
    neither differs rest (here e) = differs e
    neither differs rest (there i) = rest i

    by : Dec (k ≡ j) → (In k (take n c) → ⊥) ⊎ Found k n c → (In k (j ∷ take n c) → ⊥) ⊎ Found k (suc n) (j ∷ c)
    by (yes e) f = inr (record { before = []; after = c; parts = ap (λ x. x ∷ c) (sym e); early = omega arith })
    by (no d) (inl lacks) = inl (neither d lacks)
    by (no d) (inr f) = inr (record { before = j ∷ f.before; after = f.after; parts = ap (λ x. j ∷ x) f.parts; early = omega (arith, f.early) })

-- One number stands twice among the first n of c.
record Twice (n : ℕ) (c : Climb) : Type 0 where
  pub number : ℕ
  pub before : Climb
  pub between : Climb
  pub after : Climb
  pub parts : c ≡ before ++ number ∷ (between ++ number ∷ after)
  pub early : length before + length between + 1 < n

twice : (n : ℕ) (c : Climb) → Once (take n c) ⊎ Twice n c
twice zero c = inl tt
twice (suc n) [] = inl tt
twice (suc n) (k ∷ c) = by (find k n c) (twice n c)
  where
    by : (In k (take n c) → ⊥) ⊎ Found k n c → Once (take n c) ⊎ Twice n c → Once (k ∷ take n c) ⊎ Twice (suc n) (k ∷ c)
    by (inr f) t = inr (record { number = k; before = []; between = f.before; after = f.after; parts = ap (λ x. k ∷ x) f.parts; early = omega (arith, f.early) })
    by (inl lacks) (inl once) = inl (lacks, once)
    by (inl lacks) (inr t) =
        inr (record { number = t.number; before = k ∷ t.before; between = t.between; after = t.after; parts = ap (λ x. k ∷ x) t.parts; early = omega (arith, t.early) })

module _ {rules : List Rule} where
  listed : {j p g : ℕ} {c : Climb} (n : ℕ) → Rise rules p c g → In j (take n c) → j < length rules
  listed zero r i = elim i [ ]
  listed (suc n) none i = elim i [ ]
  listed (suc n) (then a changes r) (here e) = subst (λ k. k < length rules) (sym e) a.listed
  listed (suc n) (then a changes r) (there i) = listed n r i

  module _ (k : ℕ) (b d : Climb) where
    -- What follows rule k.
    rest : {p g : ℕ} (a : Climb) → Rise rules p (a ++ k ∷ d) g → Rise rules (rule rules k).to d g
    rest {g = g} [] (then l changes r) = subst (λ q. Rise rules q d g) (sym l.to) r
    rest (j ∷ a) (then l changes r) = rest a r

    -- The rise without the round from rule k to rule k.
    without : {p g : ℕ} (a : Climb) → Rise rules p (a ++ k ∷ (b ++ k ∷ d)) g → Rise rules p (a ++ k ∷ d) g
    without {g = g} [] (then l changes r) = then l changes (subst (λ q. Rise rules q d g) l.to (rest b r))
    without (j ∷ a) (then l changes r) = then l changes (without a r)

  -- A rise with at least five rules more than there are, without one round.
  shorter : {p g : ℕ} (c : Climb) → Rise rules p c g → length rules + 4 < length c → (d : Climb) × Rise rules p d g × (5 ≤ length d) × (length d < length c)
  shorter {p} {g} c r long = by (twice (length rules + 1) c)
    where
      by : Once (take (length rules + 1) c) ⊎ Twice (length rules + 1) c → (d : Climb) × Rise rules p d g × (5 ≤ length d) × (length d < length c)
      by (inl once) =
          let few = once_short (take (length rules + 1) c) (numbers 0 (length rules)) once (λ j i. in_numbers j 0 (length rules) (omega arith) (omega (arith, listed (length rules + 1) r i))) in
          absurd (omega (arith, length_numbers 0 (length rules), length-take-le (length rules + 1) c (omega arith)))
      by (inr t) =
          let a = t.before in
          let b = t.between in
          let d = t.after in
          let k = t.number in
          let whole = ap length t.parts ∙ length-append a (k ∷ (b ++ k ∷ d)) in
          let parts : Rise rules p (a ++ k ∷ (b ++ k ∷ d)) g = subst (λ x. Rise rules p x g) t.parts r in
          (a ++ k ∷ d, without k b d a parts, omega (arith, whole, length-append b (k ∷ d), length-append a (k ∷ d), t.early), omega (arith, whole, length-append b (k ∷ d), length-append a (k ∷ d)))

  -- Where some rise has five rules or more, some such rise has at most four more than there are.
  trimmed : {p g : ℕ} (n : ℕ) (c : Climb) → length c ≤ n → Rise rules p c g → 5 ≤ length c → (d : Climb) × Rise rules p d g × (5 ≤ length d) × (length d ≤ length rules + 4)
  trimmed zero c most r five = absurd (omega arith)
  trimmed {p} {g} (suc n) c most r five = by (dec_lt (length rules + 4) (length c)) (λ d less s. trimmed n d less s)
    where
      by : Dec (length rules + 4 < length c) → ((d : Climb) → length d ≤ n → Rise rules p d g → 5 ≤ length d → (e : Climb) × Rise rules p e g × (5 ≤ length e) × (length e ≤ length rules + 4)) →
          (d : Climb) × Rise rules p d g × (5 ≤ length d) × (length d ≤ length rules + 4)
      by (no short) again = (c, r, five, omega arith)
      by (yes long) again = let (d, s, enough, less) = shorter c r long in again d (omega arith) s enough

  -- Some rise is too heavy if and only if one of the rounds finds one, up to four rounds more than there are rules.
  pub heavy_over_any_rules : (p g : ℕ) → (Heavy rules p g ↔ ((n : ℕ) × (n ≤ length rules + 4) × Over (heaviest rules g n p)))
  heavy_over_any_rules p g = (λ (c, r, h). by c r h (dec_lt (length rules + 4) (length c)), λ (n, _, o). let (v, (c, r, l, e), h) = (over _ _ (rounds_find rules g n p)).0 o in (c, r, subst (λ (m : ℕ). weight_limit < m) (sym e) h))
    where
      in_round : (c : Climb) → Rise rules p c g → weight_limit < weight rules c → length c ≤ length rules + 4 → (n : ℕ) × (n ≤ length rules + 4) × Over (heaviest rules g n p)
      in_round c r h few = (length c, few, (over _ _ (rounds_find rules g (length c) p)).1 (weight rules c, (c, r, refl, refl), h))

      by : (c : Climb) → Rise rules p c g → weight_limit < weight rules c → Dec (length rules + 4 < length c) → (n : ℕ) × (n ≤ length rules + 4) × Over (heaviest rules g n p)
      by c r h (no short) = in_round c r h (omega arith)
      by c r h (yes long) = let (d, s, five, few) = trimmed (length c) c (omega arith) r (omega arith) in in_round d s (omega (arith, long_weighs rules d five)) few
