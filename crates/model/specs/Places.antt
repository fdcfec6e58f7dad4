-- Rows and columns: a number below m * n as a row below m and a column below n.
use Rattle.std.specs.Prelude.{◌≡◌, ℕ, ◌+◌, ◌*◌, ◌/◌, ◌%◌, ◌<◌, ◌≤◌}
use Rattle.std.proofs.Common.{sym, ap₂, ◌∙◌, mul-zero, arith, ⊎_elim}
use Rattle.std.proofs.lemmas.Nat.{div_below, mod_below, div-add-mod'}
use Rattle.std.proofs.lemmas.Bool.{cases_lt}
use Rattle.std.proofs.lemmas.Bool.Decides.{nat_tests}
use Rattle.model.specs.Orders.{capped}

pub capped_le : (n : ℕ) → capped n ≤ n
capped_le n = grind (arith, nat_tests)

module _ (m n a : ℕ) (h : a < capped (m * n)) where
  pub width : 0 < n
  width = ⊎_elim (λ p. p) (λ z. let none : n ≡ 0 = omega arith in
      let e : m * n ≡ 0 = rw none (mul-zero m) in absurd (omega (arith, capped_le (m * n)))) (cases_lt 0 n)

  pub row : a / n < m
  row = div_below a n m width (omega (arith, capped_le (m * n)))

  pub column : a % n < n
  column = mod_below a n width

pub same_place : (n a b : ℕ) → a / n ≡ b / n → a % n ≡ b % n → a ≡ b
same_place n a b p q = sym (div-add-mod' a n) ∙ ap₂ (λ x y. x * n + y) p q ∙ div-add-mod' b n
