-- The bits that are left to put, loop by loop.
use Rattle.std.proofs.Common.{◌≡◌, ℕ, ◌+◌, ◌-◌, ◌<◌, ◌≤◌, List, [], ◌∷◌, ◌++◌, map, length, drop, sym, refl, ap, ◌∙◌, ap₂, append_assoc, arith, length-append}
use lib.ListN.{length-map}
use Rattle.std.specs.List.{flat_map}
use Rattle.question.specs.Lists.{numbers, between}
use Rattle.question.specs.Runs.{Word, Rule, Climb}
use Rattle.question.specs.Rises.{beginnings, begun, changing, stage}
use Rattle.question.specs.Rules.{words_of}
use Rattle.question.specs.Horns.{Bit, bit}
use Rattle.question.specs.Bits.{bit_of, bits_of, bits_for, bits_at, bits, Tabled}
use Rattle.question.specs.declared.bits.Bits.{Bits}
use Rattle.question.specs.declared.row.Row.{Row}
use Rattle.question.proofs.Lists.{length_numbers}
use Rattle.question.proofs.Numbered.{weighed}
use Rattle.question.proofs.Members.{between_first, between_past}

module _ (i n : ℕ) where
  -- The bits of `bits_for` from rule k on.
  abbrev pub goals_from : Word → ℕ → List Bit
  goals_from u k = map (λ j. bit i j u) (between k n)

  pub goals_next : (u : Word) (k : ℕ) → k < n → goals_from u k ≡ bit i k u ∷ goals_from u (k + 1)
  goals_next u k less = ap (map (λ j. bit i j u)) (between_first k n less)

  -- Those for the rows from number k on.
  abbrev pub words_from : List (Row 4) → ℕ → List Bit
  words_from rows k = flat_map (bits_for i n) (words_of (drop k rows))

-- Of the rules from j on, before the next, there is rule j alone.
pub only_goal : (j : ℕ) (us : List Word) → flat_map (bits_for j (j + 1)) us ≡ map (bit j j) us
only_goal j [] = refl
only_goal j (u ∷ us) =
    let one : j + 1 - j ≡ 1 = omega arith in
    ap₂ (λ n bs. map (λ k. bit j k u) (numbers j n) ++ bs) one (only_goal j us)

-- There are at least as many bits as words read.
pub words_fewer : (i n : ℕ) (us : List Word) → i < n → length us ≤ length (flat_map (bits_for i n) us)
words_fewer i n [] less = omega arith
words_fewer i n (u ∷ us) less =
    omega (arith, words_fewer i n us less, length-append (bits_for i n u) (flat_map (bits_for i n) us), length-map (between i n) (λ j. bit i j u), length_numbers i (n - i))

module _ (rules : List Rule) (climb : Climb) where
  -- Those at the stages from the one before rule k on.
  abbrev pub stages_from : ℕ → List Bit
  stages_from k = flat_map (bits_at rules climb) (between k (length climb))

  pub stages_next : (k : ℕ) (r : Rule) → k < length climb → r ≡ changing rules climb k →
      stages_from k ≡ flat_map (bits_for k (length climb)) ([] ∷ begun rules r.from) ++ (map (bit k k) (beginnings r.left) ++ stages_from (k + 1))
  stages_next k r less is =
      let n = length climb in
      ap (flat_map (bits_at rules climb)) (between_first k n less)
      ∙ append_assoc (flat_map (bits_for k n) ([] ∷ begun rules (stage rules climb k))) _ _
      ∙ ap (λ x. flat_map (bits_for k n) ([] ∷ begun rules x.from) ++ (map (bit k k) (beginnings x.left) ++ stages_from (k + 1))) (sym is)

  pub stages_end : (k : ℕ) → length climb ≤ k → stages_from k ≡ []
  stages_end k le = ap (flat_map (bits_at rules climb)) (between_past k (length climb) le)

  pub tabled : (table : Bits) → bits_of table ≡ bits rules climb → Tabled rules climb table
  tabled table e =
      let weighs = ap length e ∙ weighed rules climb in
      record { listed = e; weighs = weighs; light = omega (arith, weighs, length-map table.slots.items bit_of, table.short) }
