-- Sums over 0 ≤ i < n. A set is a function ℕ → Bool.
use Rattle.std.specs.Prelude.{ℕ, zero, suc, ◌+◌, Bool, cond}

-- the sum of f i over i < n
unfoldable pub sum : ℕ → (ℕ → ℕ) → ℕ
sum zero f = 0
sum (suc n) f = sum n f + f n

-- the sum of c i over the i < n in p
abbrev pub weigh : ℕ → (ℕ → Bool) → (ℕ → ℕ) → ℕ
weigh n p c = sum n (λ i. cond (p i) (c i) 0)

-- how many i < n are in p
abbrev pub count : ℕ → (ℕ → Bool) → ℕ
count n p = weigh n p (λ i. 1)
