-- Sets of bits as numbers.
use Rattle.std.proofs.Common.{◌≡◌, ℕ, suc, ◌+◌, ◌-◌, ◌/◌, ◌%◌, ◌^◌, ◌<◌, ◌≤◌, min, max, ◌⊎◌, sym, ap, ◌∙◌, inl, inr, ⊎_elim, one-mul, pow-suc, div-one, arith}
use native.Mathlib.Nat.{div-eq_of_lt, div-div-eq-div-mul, pow-succ', mul-mod_left, zero-div}
use lib.Arith.{bin_ind}
use lib.Bits.{bit_and, bit_or, and_step, or_step, or_add_and, and_le_r, and_shr, or_shr, and_zero_r}
use Rattle.std.proofs.lemmas.Nat.{pow-add, shl-shr, pow_below}
use Rattle.std.proofs.lemmas.Bool.{cases_order}
use Rattle.question.specs.Accepts.{Has}
use Rattle.question.specs.Marks.{Within}

-- the lowest digit of an `&` and of an `|`
and_low : (a b : ℕ) → bit_and a b % 2 ≡ min (a % 2) (b % 2)
and_low a b = omega (arith, and_step a b)

or_low : (a b : ℕ) → bit_or a b % 2 ≡ max (a % 2) (b % 2)
or_low a b = omega (arith, or_step a b)

pub or_more : (s u : ℕ) → s ≤ bit_or s u
or_more s u = omega (arith, or_add_and s u, and_le_r s u)

pub has_or_left : (s u b : ℕ) → Has s b → Has (bit_or s u) b
unfolding Has
has_or_left s u b h = rw or_shr (omega (arith, or_low (s / 2 ^ b) (u / 2 ^ b)))

pub has_or_right : (s u b : ℕ) → Has u b → Has (bit_or s u) b
unfolding Has
has_or_right s u b h = rw or_shr (omega (arith, or_low (s / 2 ^ b) (u / 2 ^ b)))

one_of : (p q : ℕ) → max (p % 2) (q % 2) ≡ 1 → (p % 2 ≡ 1) ⊎ (q % 2 ≡ 1)
one_of p q h = ⊎_elim (λ e. inl e) (λ o. inr (omega arith)) (cases_order (p % 2) 1)

pub has_or_cases : (s u b : ℕ) → Has (bit_or s u) b → Has s b ⊎ Has u b
unfolding Has
has_or_cases s u b h = one_of (s / 2 ^ b) (u / 2 ^ b) (sym (or_low _ _) ∙ (rw or_shr at h))

-- 2 ^ b is the set of b alone
pub has_one : (b : ℕ) → Has (2 ^ b) b
unfolding Has
has_one b = ap (λ n. n % 2) (ap (λ n. n / 2 ^ b) (sym (one-mul (2 ^ b))) ∙ shl-shr 1 b)

-- above its one digit, 2 ^ b has zeros, and below it too
low_zero : (c d : ℕ) → (2 ^ (suc d + c) / 2 ^ c) % 2 ≡ 0
low_zero c d = ap (λ n. (n / 2 ^ c) % 2) (pow-add 2 (suc d) c) ∙ ap (λ n. n % 2) (shl-shr (2 ^ suc d) c ∙ pow-suc 2 d) ∙ mul-mod_left (2 ^ d) 2

high_zero : (b c : ℕ) → b < c → (2 ^ b / 2 ^ c) % 2 ≡ 0
high_zero b c h = ap (λ n. n % 2) (div-eq_of_lt (pow_below b c h))

pub one_has : (b c : ℕ) → Has (2 ^ b) c → c ≡ b
unfolding Has
one_has b c h =
    ⊎_elim
    (λ e. e)
    (λ o. ⊎_elim
    (λ less. let e : suc (b - suc c) + c ≡ b = omega arith in absurd (omega (arith, h, low_zero c (b - suc c), ap (λ n. (2 ^ n / 2 ^ c) % 2) e)))
    (λ more. absurd (omega (arith, h, high_zero b c more)))
    o)
    (cases_order c b)

pub none_has : (b : ℕ) → Has 0 b → ⊥
unfolding Has
none_has b h = omega (arith, h, zero-div (2 ^ b))

-- the program's test for a subset
pub within_from_and : (s m : ℕ) → bit_and m s ≡ s → Within s m
unfolding Has
within_from_and s m e b h =
    let low = and_low (m / 2 ^ b) (s / 2 ^ b) in
    let whole : (bit_and (m / 2 ^ b) (s / 2 ^ b)) % 2 ≡ (s / 2 ^ b) % 2 = ap (λ n. n % 2) (sym (and_shr m s b) ∙ ap (λ n. n / 2 ^ b) e) in
    omega arith

-- the digit above the lowest is the half's digit
up : (s b : ℕ) → (s / 2 ^ suc b) % 2 ≡ (s / 2 / 2 ^ b) % 2
up s b = ap (λ n. n % 2) (ap (λ n. s / n) (pow-succ' 2 b) ∙ sym (div-div-eq-div-mul s 2 (2 ^ b)))

half_within : (s m : ℕ) → Within s m → Within (s / 2) (m / 2)
unfolding Has
half_within s m h b i = sym (up m b) ∙ h (suc b) (up s b ∙ i)

low_within : (s m : ℕ) → Within s m → min (m % 2) (s % 2) ≡ s % 2
unfolding Has
low_within s m h =
    ⊎_elim
    (λ one. let there = h 0 (ap (λ n. n % 2) (div-one s) ∙ one) in omega (arith, ap (λ n. n % 2) (div-one m)))
    (λ other. omega arith)
    (cases_order (s % 2) 1)

pub and_from_within : (s m : ℕ) → Within s m → bit_and m s ≡ s
and_from_within s =
    bin_ind
    (λ n. (m : ℕ) → Within n m → bit_and m n ≡ n)
    (λ m h. and_zero_r m)
    (λ n ih m h. let low = low_within n m h in let high = ih (m / 2) (half_within n m h) in omega (arith, and_step m n))
    s
