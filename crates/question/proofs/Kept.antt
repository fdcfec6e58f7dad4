-- Words that are kept once each, in a list that grows.
use Rattle.std.proofs.Common.{◌≡◌, ℕ, zero, suc, ◌+◌, ◌-◌, ◌<◌, ◌≤◌, Bool, true, false, cond, ◌||◌, List, [], ◌∷◌, ◌++◌, map, length, get_or, take, drop, sym, refl, ap, ◌∙◌, arith}
use Rattle.std.proofs.lemmas.List.{at_drop_more, length_push}
use Rattle.std.proofs.lemmas.Bool.{cond_both}
use Rattle.std.specs.List.{list_any}
use Rattle.std.specs.Str.{bytes_eq}
use Rattle.question.specs.Lists.{numbers, between}
use Rattle.question.specs.Runs.{Word}
use Rattle.question.specs.Rises.{among, kept, beginnings}
use Rattle.question.specs.Rows.{held}
use Rattle.question.specs.Rules.{words_of}
use Rattle.question.specs.declared.row.Row.{Row}
use Rattle.question.proofs.Members.{between_first}

pub any_among : (u : Word) (rows : List (Row 4)) → list_any (λ r. bytes_eq u (held r)) rows ≡ among u (words_of rows)
any_among u [] = refl
any_among u (r ∷ rows) = turned (bytes_eq u (held r)) _ ∙ ap (cond (bytes_eq u (held r)) true) (any_among u rows)
  where
    turned : (b d : Bool) → (b || d) ≡ cond b true d
    turned true d = refl
    turned false d = refl

-- what the rows from number k on hold
pub rows_next : (rows : List (Row 4)) (k : ℕ) (x : Row 4) → k < length rows → x ≡ get_or rows k x → words_of (drop k rows) ≡ held x ∷ words_of (drop (k + 1) rows)
rows_next rows k x less is = at_drop_more words_of rows k x less ∙ ap (λ y. held y ∷ words_of (drop (k + 1) rows)) (sym is)

kept_longer : (seen us : List Word) → length seen ≤ length (kept seen us)
kept_longer seen [] = omega arith
kept_longer seen (u ∷ us) =
    let more = cond_both (among u seen) seen (seen ++ u ∷ []) (λ l. length seen ≤ length l) (λ _. omega arith) (λ _. omega (arith, length_push seen u)) in
    omega (arith, more, kept_longer (cond (among u seen) seen (seen ++ u ∷ [])) us)

kept_append : (seen us vs : List Word) → kept seen (us ++ vs) ≡ kept (kept seen us) vs
kept_append seen [] vs = refl
kept_append seen (u ∷ us) vs = kept_append (cond (among u seen) seen (seen ++ u ∷ [])) us vs

-- The words of `left` are to be kept, and us come first.
module _ (whole now left us rest : List Word) (step : left ≡ us ++ rest) (inv : kept now left ≡ whole) where
  split : kept (kept now us) rest ≡ whole
  split = sym (ap (kept now) step ∙ kept_append now us rest) ∙ inv

  pub kept_next : (now' : List Word) → now' ≡ kept now us → kept now' rest ≡ whole
  kept_next now' e = ap (λ l. kept l rest) e ∙ split

  pub kept_over : (most : ℕ) → most < length (kept now us) → most < length whole
  kept_over most h = omega (arith, kept_longer (kept now us) rest, ap length split)

-- The beginnings of the word that have m symbols or more.
abbrev pub from_length : Word → ℕ → List Word
from_length l m = map (λ k. take k l) (between m (length l))

longer_first : (a : ℕ) (l : Word) (m k : ℕ) → map (λ i. take i (a ∷ l)) (numbers (suc m) k) ≡ map (λ u. a ∷ u) (map (λ i. take i l) (numbers m k))
longer_first a l m zero = refl
longer_first a l m (suc k) = ap (λ us. (a ∷ take m l) ∷ us) (longer_first a l (suc m) k)

pub from_one : (l : Word) → from_length l 1 ≡ beginnings l
from_one [] = refl
from_one (a ∷ []) = refl
from_one (a ∷ b ∷ l) =
    let n = length l in
    let long : suc (suc n) - 1 ≡ suc n = omega arith in
    let short : suc n - 1 ≡ n = omega arith in
    ap (λ k. map (λ i. take i (a ∷ b ∷ l)) (numbers 1 k)) long
    ∙ ap (λ us. (a ∷ []) ∷ us) (longer_first a (b ∷ l) 1 n ∙ ap (map (λ u. a ∷ u)) (ap (λ k. map (λ i. take i (b ∷ l)) (numbers 1 k)) (sym short) ∙ from_one (b ∷ l)))

pub from_length_next : (l : Word) (m : ℕ) (u : Word) → m < length l → u ≡ take m l → from_length l m ≡ u ∷ from_length l (m + 1)
from_length_next l m u less is = ap (map (λ k. take k l)) (between_first m (length l) less) ∙ ap (λ v. v ∷ from_length l (m + 1)) (sym is)
