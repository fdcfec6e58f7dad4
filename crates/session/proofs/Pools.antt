-- The pool of a session: the given words and the heard ones.
use Rattle.std.proofs.Common.{ℕ, zero, suc, ◌<◌, ◌∙◌, Bool, Decides, map, length, get_or, subst, ◌⊎◌, List, [], ◌∷◌, sym, inl, inr, ⊎_elim, arith}
use Rattle.std.proofs.lemmas.Bool.Decides.{Decides-like}
use Rattle.std.proofs.lemmas.List.{get_or-map, length-map}
use Rattle.std.specs.List.{ContainsAt as Has, HoldsAt, AllByRecursion as All}
use Rattle.std.proofs.ByRecursion.{all-has, All-map}
use Rattle.model.specs.Symbols.{Symbols}
use Rattle.question.specs.declared.row.Row.{Row}
use Rattle.question.specs.Rows.{held}
use Rattle.question.specs.Runs.{Word, Pool}
use Rattle.question.proofs.Laid.{held_symbols}

-- Some row holds a word of P: some word that the rows hold is one.
module _ (P : Word → Type 0) where
  abbrev pub AtRow : List (Row 32) → Type 0
  AtRow rows = (k : ℕ) × (k < length rows) × HoldsAt (λ row. P (held row)) rows k

  abbrev pub AmongWords : List (Row 32) → Type 0
  AmongWords rows = (w : Word) × (Has (map held rows) w × Symbols w) × P w

  word_at : (rows : List (Row 32)) → AtRow rows → AmongWords rows
  word_at [] (k, l, at) = absurd (omega arith)
  word_at (r ∷ rows) (k, l, at) =
      let row = get_or (r ∷ rows) k r in
      (held row, ((k, omega (arith, length-map (r ∷ rows) held), λ d. get_or-map held (r ∷ rows) k r d l), held_symbols row), at r)

  row_of : (rows : List (Row 32)) → AmongWords rows → AtRow rows
  row_of rows (w, ((k, l, at), _), p) =
      let l' : k < length rows = omega (arith, length-map rows held) in
      (k, l', λ d. subst P (sym (at (held d)) ∙ get_or-map held rows k d (held d) l') p)

  pub some_word : (rows : List (Row 32)) (b : Bool) → Decides b (AtRow rows) → Decides b (AmongWords rows)
  some_word rows b = Decides-like _ (word_at rows) (row_of rows)

-- Rows hold symbols.
heard_symbols : (rows : List (Row 32)) (w : Word) → Has (map held rows) w → Symbols w
heard_symbols rows w = all-has Symbols (map held rows) w (All-map Symbols held rows (each rows))
  where
    each : (rows : List (Row 32)) → All (λ r. Symbols (held r)) rows
    each [] = tt
    each (r ∷ rows) = (held_symbols r, each rows)

module _ (W : Word → Type 0) (w : Word) where
  given_in : (added : List Word) → W w → Pool W added w
  given_in [] h = h
  given_in (v ∷ added) h = inr (given_in added h)

  added_in : (added : List Word) → Has added w → Pool W added w
  added_in [] (k, l, at) = absurd (omega arith)
  added_in (v ∷ added) (zero, l, at) = inl (sym (at []))
  added_in (v ∷ added) (suc k, l, at) = inr (added_in added (k, omega arith, at))

  given_or_added : (added : List Word) → Pool W added w → W w ⊎ Has added w
  given_or_added [] h = inl h
  given_or_added (v ∷ added) (inl e) = inr (0, omega arith, λ d. sym e)
  given_or_added (v ∷ added) (inr h) = ⊎_elim inl (λ (k, l, at). inr (suc k, omega arith, at)) (given_or_added added h)

  -- Both pools have the word if and only if the session's pool has it.
  module _ (rows : List (Row 32)) where
    pub in_pool : W w ⊎ (Has (map held rows) w × Symbols w) → Pool W (map held rows) w
    in_pool = ⊎_elim (given_in (map held rows)) (λ (has, _). added_in (map held rows) has)

    pub given_or_heard : Pool W (map held rows) w → W w ⊎ (Has (map held rows) w × Symbols w)
    given_or_heard p = ⊎_elim inl (λ has. inr (has, heard_symbols rows w has)) (given_or_added (map held rows) p)
