-- Worked designs: what the definitions say of small orders, pools and rules.
use Rattle.std.specs.Prelude.{◌≡◌, ℕ, ◌+◌, ◌^◌, ◌≢◌, ◌⊎◌, ◌↔◌, List, [], ◌∷◌}
use Prim.Native.String.{String}
use Rattle.model.specs.Books.{BookWord}
use Rattle.model.specs.Keys.{KeyWord}
use Rattle.model.specs.declared.orders.Ladder.{Ladder}
use Rattle.model.specs.declared.orders.Flags.{Flags}
use Rattle.model.specs.declared.orders.Pair.{Pair}
use Rattle.model.specs.declared.orders.Order.{Ghosts as Meaning}
use Rattle.model.specs.contracts.orders.Ladder.{the_row as the_ladder}
use Rattle.model.specs.contracts.orders.Flags.{the_row as the_flags}
use Rattle.model.specs.contracts.orders.LadderOrder.TheImpl.{ghosts as ladders, dict as ladder_calls}
use Rattle.model.specs.contracts.orders.FlagsOrder.TheImpl.{ghosts as flag_sets, dict as flag_calls}
use Rattle.model.specs.contracts.orders.PairOrder.TheImpl.{ghosts as pairs_of}
use Rattle.question.specs.Runs.{Word, Rule}
use Rattle.question.specs.Rises.{weight, Heavy}
use Rattle.question.specs.Orders.{NeverFalls}
use Rattle.question.specs.Verdicts.{Verdict, Verdict.out, Verdict.in_by, Verdict.too_heavy, Means}
use Rattle.question.specs.Notation.{hex, turn, book}

-- The meaning of a ladder with flags: the two orders side by side.
abbrev pub pairs : Meaning (Pair Ladder Flags)
pairs = pairs_of the_ladder the_flags ladders ladder_calls flag_sets flag_calls

abbrev pub ladder : ℕ → Ladder
ladder n = record { 0 = n }

abbrev pub flags : ℕ → Flags
flags k = record { 0 = k }

abbrev pub ladder_with_flags : ℕ → ℕ → Pair Ladder Flags
ladder_with_flags n k = record { 0 = ladder n; 1 = flags k }

-- The verdict on the goal g at stage 0 of a ladder of five stages, where these rules and the words of P are given. No rule falls; and where the
-- verdict says whether the goal is in reach, no rise to it is too heavy.
pub record Asked (rules : List Rule) (P : Word → Type 0) (g : ℕ) (v : Verdict) : Type 0 where
  pub never_falls : NeverFalls (ladders.stages (ladder 5)) (ladders.above (ladder 5)) rules
  pub verdict : Means rules P 0 [] g v
  pub light : v ≢ too_heavy → Heavy rules 0 g → ⊥

-- 1 becomes 2, and 2 is taken off.
abbrev pub two_turns : List Rule
two_turns = turn 0 "1" 1 "2" ∷ turn 1 "2" 2 "" ∷ []

-- Rule 1 and rule 2 both rewrite what rule 0 makes.
abbrev pub keeping : List Rule
keeping = turn 0 "1" 1 "2" ∷ turn 1 "2" 2 "3" ∷ turn 2 "2" 3 "4" ∷ []

-- Rule 1 wants what rule 0 makes of a word with 4 inside, rule 2 of one with 3 inside.
abbrev pub sharing : List Rule
sharing = turn 0 "1" 1 "2" ∷ turn 1 "24" 2 "5" ∷ turn 2 "23" 3 "6" ∷ []

-- Rule 0 stays and makes the word longer, and rule 1 wants four of the symbol 1.
abbrev pub growing : List Rule
growing = turn 0 "1" 0 "11" ∷ turn 0 "1111" 1 "2" ∷ []

-- Each of the symbols 1 to 5 becomes two of the next, and 6 is taken off.
abbrev pub unwrapping : List Rule
unwrapping =
    turn 0 "1" 0 "22" ∷ turn 0 "2" 0 "33" ∷ turn 0 "3" 0 "44" ∷ turn 0 "4" 0 "55" ∷ turn 0 "5" 0 "66" ∷ turn 0 "6" 0 "" ∷ turn 0 "F" 1 "F" ∷ []

-- Four rules from stage to stage, with these left sides.
abbrev pub stairs : String → String → String → String → List Rule
stairs a b c d = turn 0 a 1 "1" ∷ turn 1 b 2 "1" ∷ turn 2 c 3 "1" ∷ turn 3 d 4 "1" ∷ []

-- The climb of all of them.
abbrev pub all_four : List ℕ
all_four = 0 ∷ 1 ∷ 2 ∷ 3 ∷ []

-- The designs, by what they show.
pub record Designs : Type 0 where
  -- one word, exchanged twice
  pub two_exchanges : Asked two_turns (book ("1F" ∷ [])) 2 (in_by (0 ∷ 1 ∷ []))
  -- a rewritten word stays in the pool, and is rewritten again
  pub kept_word : Asked keeping (book ("1F" ∷ [])) 3 (in_by (0 ∷ 1 ∷ 2 ∷ []))
  -- rule 0 makes one word only, and so serves rule 1 or rule 2
  pub one_output : Asked sharing (book ("14F" ∷ "13F" ∷ [])) 3 out
  pub one_output_serves_one : Asked sharing (book ("14F" ∷ "13F" ∷ [])) 2 (in_by (0 ∷ 1 ∷ []))
  -- a staying rule makes the word longer, as often as it is wanted
  pub growing_word : Asked growing (book ("1F" ∷ [])) 1 (in_by (1 ∷ []))
  -- sixty-three steps that stay take off the symbol 1, and then one changes
  pub long_unwrapping : Asked unwrapping (book ("1F" ∷ [])) 1 (in_by (6 ∷ []))
  -- with no word there is no step: only the present stage is in reach
  pub empty_pool_here : Asked two_turns (book []) 0 (in_by [])
  pub empty_pool_there : Asked two_turns (book []) 1 out
  -- the weight limit is eleven
  pub below_limit : (weight (stairs "1" "1" "1" "1") all_four ≡ 10) × Asked (stairs "1" "1" "1" "1") (book []) 4 out
  pub at_limit : (weight (stairs "11" "1" "1" "1") all_four ≡ 11) × Asked (stairs "11" "1" "1" "1") (book []) 4 out
  pub above_limit : (weight (stairs "11" "11" "1" "1") all_four ≡ 12) × Asked (stairs "11" "11" "1" "1") (book []) 4 too_heavy
  -- flags: 101 has every bit of 001, and 110 has not
  pub flags_above : flag_sets.above (flags 3) 5 1
  pub flags_beside : flag_sets.above (flags 3) 6 1 → ⊥
  -- an order has at most 64 stages
  pub as_many_as_may_be : pairs.stages (ladder_with_flags 8 3) ≡ 64
  pub too_many : pairs.stages (ladder_with_flags 9 3) ≡ 0
  -- a ladder with flags: stage 6 is rung 1 with flags 2, stage 2 is rung 0 with flags 2, stage 1 is rung 0 with flags 1
  pub pair_above : pairs.above (ladder_with_flags 3 2) 6 2
  pub pair_beside : pairs.above (ladder_with_flags 3 2) 6 1 → ⊥
  -- known keys 1 and 2, and the end symbol F
  pub keys_end : KeyWord (2 ^ 1 + 2 ^ 2) 15 (hex "F")
  pub keys_round_end : KeyWord (2 ^ 1 + 2 ^ 2) 15 (hex "12F")
  pub keys_no_end : KeyWord (2 ^ 1 + 2 ^ 2) 15 (hex "12") → ⊥
  pub keys_unknown : KeyWord (2 ^ 1 + 2 ^ 2) 15 (hex "3F") → ⊥
  pub keys_end_within : KeyWord (2 ^ 1 + 2 ^ 2) 15 (hex "FF") → ⊥
  -- a book with an empty entry, one that is no word, and one that is cut by the end
  pub book_bytes : (w : Word) → BookWord (2 ∷ 1 ∷ 15 ∷ 0 ∷ 1 ∷ 16 ∷ 1 ∷ []) w ↔ ((w ≡ hex "1F") ⊎ (w ≡ hex ""))
  -- known keys beside an empty book serve as well as a word of the book
  pub keys_as_pool : Asked two_turns (λ w. book [] w ⊎ KeyWord (2 ^ 1) 15 w) 2 (in_by (0 ∷ 1 ∷ []))
