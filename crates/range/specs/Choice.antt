-- One number below n out of a set; n₀, which is past all, where the set has none.
use Rattle.std.specs.Prelude.{ℕ, zero, suc, Bool, cond, ◌||◌, eqb}

-- the lowest i < n in p, or n
unfoldable pub lowest : (ℕ → Bool) → ℕ → ℕ
lowest p zero = 0
lowest p (suc n) = cond (p 0) 0 (suc (lowest (λ i. p (suc i)) n))

-- the i < n in p than which no other in p is better, or n₀
unfoldable pub best : (ℕ → ℕ → Bool) → (ℕ → Bool) → ℕ → ℕ → ℕ
best better p n₀ zero = n₀
best better p n₀ (suc n) =
    let b = best better p n₀ n in
    cond (p n) (cond (eqb b n₀ || better n b) n b) b
