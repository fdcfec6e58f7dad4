-- The worked designs, one after another.
use Rattle.std.proofs.Common.{◌≡◌, ℕ, ◌^◌, ◌<◌, ◌⊎◌, List, [], ◌∷◌, ◌++◌, length, sym, refl, ap, inl, inr, arith, lit<, lit≤}
use Rattle.model.specs.Books.{Entry.first}
use Rattle.model.specs.Keys.{KeyWord}
use Rattle.question.specs.Runs.{Word, Rule, Pool, Climb, rule, Run, Run.done, Run.stay, Run.rise, Reaches}
use Rattle.question.specs.Rises.{Rise.none, Rise.then, weight}
use Rattle.question.specs.Verdicts.{Verdict.out, Verdict.in_by, Verdict.too_heavy}
use Rattle.question.specs.Notation.{hex, book}
use Rattle.question.specs.Designs.{Asked, two_turns, keeping, sharing, growing, unwrapping, stairs, all_four, Designs}
use Rattle.question.proofs.Listing.{asked_in, asked_out, asked_heavy}
use Rattle.question.proofs.Stepping.{leads, changes, stays, arrived}
use Rattle.question.proofs.Meanings.{no_words, one_f, keys_no_end, keys_unknown, keys_end_within, book_bytes}
use Rattle.question.proofs.Sharing.{two_words, not_both}

-- One word, exchanged twice.
exchanged : (P : Word → Type 0) → P (hex "1F") → Asked two_turns P 2 (in_by (0 ∷ 1 ∷ []))
exchanged P found = asked_in two_turns 2 (0 ∷ 1 ∷ []) refl refl P (lit≤ tt) (changes 0 (hex "F") tt (omega arith) found (changes 1 (hex "F") tt (omega arith) (inl refl) arrived))

two_exchanges : Asked two_turns (book ("1F" ∷ [])) 2 (in_by (0 ∷ 1 ∷ []))
two_exchanges = exchanged (book ("1F" ∷ [])) one_f

keys_as_pool : Asked two_turns (λ w. book [] w ⊎ KeyWord (2 ^ 1) 15 w) 2 (in_by (0 ∷ 1 ∷ []))
keys_as_pool = exchanged (λ w. book [] w ⊎ KeyWord (2 ^ 1) 15 w) (inr (lit< tt, (1 ∷ [], ((lit< tt, refl), tt), refl)))

kept_word : Asked keeping (book ("1F" ∷ [])) 3 (in_by (0 ∷ 1 ∷ 2 ∷ []))
kept_word =
    asked_in keeping 3 (0 ∷ 1 ∷ 2 ∷ []) refl refl _ (lit≤ tt)
    (changes 0 (hex "F") tt (omega arith) one_f (changes 1 (hex "F") tt (omega arith) (inl refl) (changes 2 (hex "F") tt (omega arith) (inr (inl refl)) arrived)))

growing_word : Asked growing (book ("1F" ∷ [])) 1 (in_by (1 ∷ []))
growing_word =
    asked_in growing 1 (1 ∷ []) refl refl _ (lit≤ tt)
    (stays 0 (hex "F") tt refl one_f (stays 0 (hex "1F") tt refl (inl refl) (stays 0 (hex "11F") tt refl (inl refl) (changes 1 (hex "F") tt (omega arith) (inl refl) arrived))))

-- The long unwrapping: whatever can be done once t is in the pool, can be done once it is there with the symbol s round it.

abbrev Unwraps : ℕ → Type 0
Unwraps s = (t : Word) (added : List Word) → Pool (book ("1F" ∷ [])) added (s ∷ t) →
    ((more : List Word) → Pool (book ("1F" ∷ [])) more t → Reaches unwrapping (book ("1F" ∷ [])) 0 more (6 ∷ []) 1) → Reaches unwrapping (book ("1F" ∷ [])) 0 added (6 ∷ []) 1

unwraps_6 : Unwraps 6
unwraps_6 t added found next = stays 5 t tt refl found (next (t ∷ added) (inl refl))

-- Rule k turns s into two of the symbol r, which are unwrapped one after the other.
unwraps_by : (k s r : ℕ) → k < length unwrapping → rule unwrapping k ≡ record { from = 0; left = s ∷ []; to = 0; right = r ∷ r ∷ [] } → Unwraps r → Unwraps s
unwraps_by k s r there e inner t added found next =
    let rest = inner (r ∷ t) ((r ∷ r ∷ t) ∷ added) (inl refl) (λ more f. inner t more f next) in (
      rest.0,
      stay (record {
        leads = record { listed = there; from = ap (λ x. x.from) e; to = ap (λ x. x.to) e };
        old = s ∷ t;
        found = found;
        makes = record { rest = t; before = sym (ap (λ x. x.left ++ t) e); after = sym (ap (λ x. x.right ++ t) e) };
      }) rest.1,
    )

unwraps_1 : Unwraps 1
unwraps_1 =
    unwraps_by 0 1 2 (lit< tt) refl
    (unwraps_by 1 2 3 (lit< tt) refl (unwraps_by 2 3 4 (lit< tt) refl (unwraps_by 3 4 5 (lit< tt) refl (unwraps_by 4 5 6 (lit< tt) refl unwraps_6))))

long_unwrapping : Asked unwrapping (book ("1F" ∷ [])) 1 (in_by (6 ∷ []))
long_unwrapping = asked_in unwrapping 1 (6 ∷ []) refl refl _ (lit≤ tt) (unwraps_1 (hex "F") [] one_f (λ more f. changes 6 [] tt (omega arith) f arrived))

-- With no word there is no step.

no_steps : {rules : List Rule} {p g : ℕ} {more : List Word} {c : Climb} → Run rules (book []) p [] c g more → c ≡ []
no_steps done = refl
no_steps (stay s r) = absurd (no_words s.old s.found)
no_steps (rise s n r) = absurd (no_words s.old s.found)

-- A climb of some rules has no run.
stuck : {rules : List Rule} {k g : ℕ} {c : Climb} → Reaches rules (book []) 0 [] (k ∷ c) g → ⊥
stuck r = let e = no_steps r.1 in let z : ◌≡◌ {A = ℕ} 0 1 = cc in omega arith

empty_pool_here : Asked two_turns (book []) 0 (in_by [])
empty_pool_here = asked_in two_turns 0 [] refl refl _ (lit≤ tt) arrived

empty_pool_there : Asked two_turns (book []) 1 out
empty_pool_there = asked_out two_turns 1 (0 ∷ []) refl refl _ (lit≤ tt) stuck

-- The weight limit.

below_limit : (weight (stairs "1" "1" "1" "1") all_four ≡ 10) × Asked (stairs "1" "1" "1" "1") (book []) 4 out
below_limit = (refl, asked_out (stairs "1" "1" "1" "1") 4 all_four refl refl _ (lit≤ tt) stuck)

at_limit : (weight (stairs "11" "1" "1" "1") all_four ≡ 11) × Asked (stairs "11" "1" "1" "1") (book []) 4 out
at_limit = (refl, asked_out (stairs "11" "1" "1" "1") 4 all_four refl refl _ (lit≤ tt) stuck)

above_limit : (weight (stairs "11" "11" "1" "1") all_four ≡ 12) × Asked (stairs "11" "11" "1" "1") (book []) 4 too_heavy
above_limit = (refl, asked_heavy (stairs "11" "11" "1" "1") 4 all_four refl refl _ (lit< tt) (then (leads _ 0 tt) (omega arith) (then (leads _ 1 tt) (omega arith) (then (leads _ 2 tt) (omega arith) (then (leads _ 3 tt) (omega arith) none)))))

-- One output, used once.

one_output : Asked sharing two_words 3 out
one_output = asked_out sharing 3 (0 ∷ 1 ∷ 2 ∷ []) refl refl _ (lit≤ tt) not_both

one_output_serves_one : Asked sharing two_words 2 (in_by (0 ∷ 1 ∷ []))
one_output_serves_one =
    asked_in sharing 2 (0 ∷ 1 ∷ []) refl refl _ (lit≤ tt)
    (changes 0 (hex "4F") tt (omega arith) (first (record { split = refl }), (lit< tt, (lit< tt, (lit< tt, tt)))) (changes 1 (hex "F") tt (omega arith) (inl refl) arrived))

pub designs : Designs
designs = record {
  two_exchanges = two_exchanges;
  kept_word = kept_word;
  one_output = one_output;
  one_output_serves_one = one_output_serves_one;
  growing_word = growing_word;
  long_unwrapping = long_unwrapping;
  empty_pool_here = empty_pool_here;
  empty_pool_there = empty_pool_there;
  below_limit = below_limit;
  at_limit = at_limit;
  above_limit = above_limit;
  flags_above = refl;
  flags_beside = λ h. omega (arith, h);
  as_many_as_may_be = refl;
  too_many = refl;
  pair_above = (lit≤ tt, refl);
  pair_beside = λ h. omega (arith, h.1);
  keys_end = (lit< tt, ([], tt, refl));
  keys_round_end = (lit< tt, (1 ∷ 2 ∷ [], ((lit< tt, refl), ((lit< tt, refl), tt)), refl));
  keys_no_end = keys_no_end;
  keys_unknown = keys_unknown;
  keys_end_within = keys_end_within;
  book_bytes = book_bytes;
  keys_as_pool = keys_as_pool;
}
