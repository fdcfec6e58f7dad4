-- `and` of bits, taken three at a time.
use Rattle.std.specs.Prelude.{◌≡◌, ℕ, ◌/◌, ◌%◌, min, bit_and, refl}
use Rattle.std.proofs.Common.{sym, ap, ◌∙◌, arith}
use Rattle.std.proofs.Math.Arith.{bin_ind}
use Rattle.std.specs.Int.Bits.{and_step}

half : (a b : ℕ) → bit_and a b / 2 ≡ bit_and (a / 2) (b / 2)
half a b = omega (arith, and_step a b)

odd : (a b : ℕ) → bit_and a b % 2 ≡ min (a % 2) (b % 2)
odd a b = omega (arith, and_step a b)

pub and_assoc : (a b c : ℕ) → bit_and (bit_and a b) c ≡ bit_and a (bit_and b c)
and_assoc =
    bin_ind (λ (n : ℕ). (b c : ℕ) → bit_and (bit_and n b) c ≡ bit_and n (bit_and b c)) (λ b c. refl)
    (λ n ih b c.
    let high = ap (λ x. bit_and x (c / 2)) (half n b) ∙ ih (b / 2) (c / 2) ∙ ap (bit_and (n / 2)) (sym (half b c)) in
    omega (arith, and_step (bit_and n b) c, and_step n (bit_and b c), odd n b, odd b c, high))
