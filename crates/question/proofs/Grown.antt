-- Lists that grow at their end up to a whole.
use Rattle.std.proofs.Common.{◌≡◌, ℕ, ◌<◌, List, [], ◌++◌, length, sym, ap, ◌∙◌, append_assoc, append-nil, arith, length-append}

-- The items of `left` are to be added, and us come first.
module _ {X : Type 0} (whole now left us rest : List X) (step : left ≡ us ++ rest) (inv : now ++ left ≡ whole) where
  split : (now ++ us) ++ rest ≡ whole
  split = append_assoc now us rest ∙ ap (λ l. now ++ l) (sym step) ∙ inv

  pub grown_next : (now' : List X) → now' ≡ now ++ us → now' ++ rest ≡ whole
  grown_next now' e = ap (λ l. l ++ rest) e ∙ split

  pub grown_over : (most : ℕ) → most < length (now ++ us) → most < length whole
  grown_over most h = omega (arith, length-append (now ++ us) rest, ap length split)

pub grown_end : {X : Type 0} (whole now left : List X) → left ≡ [] → now ++ left ≡ whole → now ≡ whole
grown_end whole now left e inv = sym (append-nil now) ∙ ap (λ l. now ++ l) (sym e) ∙ inv
