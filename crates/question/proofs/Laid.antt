-- Words that are laid into places of fixed size, over zeros.
use Rattle.std.proofs.Common.{◌≡◌, ℕ, zero, suc, ◌+◌, ◌-◌, ◌<◌, ◌≤◌, List, [], ◌∷◌, ◌++◌, length, get_or, drop, replicate, sym, ap, ap₂, ◌∙◌, subst, arith}
use borrow.Rule.Slice.PartMut.{put_mid}
use Rattle.std.proofs.ByRecursion.{All-from_get_or, All-append, All-take}
use Rattle.std.proofs.lemmas.List.{length-append, length-replicate, length-take-le, append_assoc, drop_at, drop-replicate, take-append-drop}
use Rattle.model.specs.Symbols.{Symbols}
use Rattle.question.specs.Rows.{held}
use Rattle.question.specs.declared.row.Row.{Row}

-- the word w, and zeros after it, n places in all
abbrev pub laid : ℕ → List ℕ → List ℕ
laid n w = w ++ replicate (n - length w) 0

zeros : (n : ℕ) → Symbols (replicate n 0)
zeros zero = tt
zeros (suc n) = (omega arith, zeros n)

symbol_at : (w : List ℕ) → Symbols w → (i : ℕ) → get_or w i 0 < 16
symbol_at [] ok i = omega arith
symbol_at (s ∷ w) ok zero = ok.0
symbol_at (s ∷ w) ok (suc i) = symbol_at w ok.1 i

-- what a length and symbols must be to make a row of n places
pub record MakesRow (n len : ℕ) (symbols : List ℕ) : Type 0 where
  pub short : len ≤ n
  pub wide : length symbols ≡ n
  pub below : (i : ℕ) → get_or symbols i 0 < 16
  pub blank : drop len symbols ≡ replicate (n - len) 0

-- a word that is laid makes a row, which holds it
module _ (n : ℕ) {len : ℕ} (w : List ℕ) {symbols : List ℕ} (is : symbols ≡ laid n w) (counted : len ≡ length w) where
  pub laid_row : len ≤ n → Symbols w → MakesRow n len symbols
  laid_row short ok =
      let wide : length symbols ≡ n = ap length is ∙ length-append w _ ∙ omega (arith, length-replicate {A = ℕ} (n - length w) 0) in
      let below : (i : ℕ) → get_or symbols i 0 < 16 = λ i. subst (λ s. get_or s i 0 < 16) (sym is) (symbol_at (laid n w) (All-append (λ s. s < 16) w _ ok (zeros _)) i) in
      let blank : drop len symbols ≡ replicate (n - len) 0 = ap (drop len) is ∙ drop_at w _ len (sym counted) ∙ ap (λ k. replicate (n - k) 0) (sym counted) in
      record { short = short; wide = wide; below = below; blank = blank }

-- a row, and a word that is laid behind what it holds
module _ {N : ℕ} (r : Row N) where
  pub held_symbols : Symbols (held r)
  held_symbols = All-take (λ s. s < 16) r.len r.symbols (All-from_get_or (λ s. s < 16) r.symbols 0 (λ i h. r.below i))

  pub length_held : length (held r) ≡ r.len
  length_held = length-take-le r.len r.symbols (omega (arith, r.short, r.wide))

  pub held_laid : r.symbols ≡ laid N (held r)
  held_laid = sym (take-append-drop r.len r.symbols) ∙ ap (λ z. held r ++ z) (r.blank ∙ ap (λ k. replicate (N - k) 0) (sym length_held))

  module _ (w : List ℕ) where
    pub behind : (k : ℕ) (copy : List ℕ) → k ≡ length w → copy ≡ w → put_mid r.len k r.symbols copy ≡ laid N (held r ++ w)
    behind k copy counted is =
        let rest : drop k (drop r.len r.symbols) ≡ replicate (N - length (held r ++ w)) 0 =
        ap (drop k) r.blank ∙ drop-replicate k (N - r.len) 0 ∙ ap (λ m. replicate m 0) (omega (arith, length_held, length-append (held r) w)) in
        sym (append_assoc (held r) copy _) ∙ ap₂ (λ v z. (held r ++ v) ++ z) is rest

    pub length_behind : r.len + length w ≡ length (held r ++ w)
    length_behind = omega (arith, length_held, length-append (held r) w)
