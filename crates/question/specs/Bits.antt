-- The bits of a climb in a list: the number of a bit is its place, and there are as many as the climb weighs.
use Rattle.std.specs.Prelude.{◌≡◌, ℕ, suc, ◌-◌, ◌≤◌, Bool, cond, ◌&&◌, List, [], ◌∷◌, ◌++◌, map, length, take, Result, ◌==◌}
use Rattle.std.specs.List.{flat_map}
use Rattle.std.specs.Str.{bytes_eq}
use Rattle.question.specs.Lists.{Becomes, In, numbers, between}
use Rattle.question.specs.Runs.{Word, Rule, Climb}
use Rattle.question.specs.Rises.{beginnings, begun, changing, stage, weight, weight_limit}
use Rattle.question.specs.Rows.{held}
use Rattle.question.specs.Horns.{Bit, bit}
use Rattle.question.specs.declared.bits.Bits.{Bits}
use Rattle.question.specs.declared.bits.Slot.{Slot}

-- Whether the bits are the same: all their parts are.
abbrev pub same_bit : Bit → Bit → Bool
same_bit b d = b.at == d.at && (b.goal == d.goal && bytes_eq b.begun d.begun)

-- The first place of b.
abbrev pub place : Bit → List Bit → ℕ
place b [] = 0
place b (d ∷ ds) = cond (same_bit b d) 0 (suc (place b ds))

-- The bit of a slot of the code.
abbrev pub bit_of : Slot → Bit
bit_of s = bit s.at s.goal (held s.begun)

-- The bits of a table of the code.
abbrev pub bits_of : Bits → List Bit
bits_of table = map bit_of table.slots.items

-- The bits bs were put at the end of a table, or there is no room for them.
abbrev pub Puts : {T E : Type 0} → List Bit → Bits → Result T E → Bits → Type 0
Puts bs before r after = Becomes 11 (bits_of before ++ bs) r (bits_of after)

-- The list has the bits that are met while the left side l is read.
abbrev pub Met : List Bit → ℕ → ℕ → Word → Type 0
Met all i j l = (m : ℕ) → m ≤ length l - 1 → In (bit i j (take m l)) all

-- For each rule from i on, before the n-th, the bit at stage i once u is read.
abbrev pub bits_for : ℕ → ℕ → Word → List Bit
bits_for i n u = map (λ j. bit i j u) (between i n)

module _ (rules : List Rule) (climb : Climb) where
  -- The bits at stage i: with nothing read, with what staying rules begin to read, and with what rule i begins to read.
  abbrev pub bits_at : ℕ → List Bit
  bits_at i =
      flat_map (bits_for i (length climb)) ([] ∷ begun rules (stage rules climb i)) ++
      map (bit i i) (beginnings (changing rules climb i).left)

  -- All of them. The first are base 0 0, base 0 1, ..
  abbrev pub bits : List Bit
  bits = flat_map bits_at (numbers 0 (length climb))

  -- The table has the bits of the climb, as many as it weighs, which is not too heavy.
  pub record Tabled (table : Bits) : Type 0 where
    pub listed : bits_of table ≡ bits
    pub weighs : length (bits_of table) ≡ weight rules climb
    pub light : weight rules climb ≤ weight_limit
