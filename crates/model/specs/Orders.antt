-- What the orders mean.
use Rattle.std.specs.Prelude.{ℕ, ◌/◌, ◌%◌, cond, nat_le}

-- The most stages that an order may have.
abbrev pub limit : ℕ
limit = 64

-- An order that would need more stages has none.
abbrev pub capped : ℕ → ℕ
capped n = cond (nat_le n limit) n 0

-- Two relations side by side, on numbers a × width + b: both parts have to stand at or above.
abbrev pub Beside : (ℕ → ℕ → Type 0) → (ℕ → ℕ → Type 0) → ℕ → ℕ → ℕ → Type 0
Beside P Q width b a = P (b / width) (a / width) × Q (b % width) (a % width)
