-- Going through 0 .. m - 1 by an order, and deciding each number by those already in the set.
use Rattle.std.specs.Prelude.{ℕ, zero, suc, Bool, false, cond, eqb}
use Rattle.range.specs.Sum.{count}

-- how many come before i
abbrev pub place : ℕ → (ℕ → ℕ → Bool) → ℕ → ℕ
place m before i = count m (λ g. before g i)

-- the set after k steps: step k decides the number in place k, by a test over the set so far
unfoldable pub pass_after : ℕ → (ℕ → ℕ → Bool) → ((ℕ → Bool) → ℕ → Bool) → ℕ → ℕ → Bool
pass_after m before test zero i = false
pass_after m before test (suc k) i =
    let decide = test (λ g. pass_after m before test k g) i in
    let old = pass_after m before test k i in
    cond (eqb (place m before i) k) decide old

-- the set after all m steps
abbrev pub pass : ℕ → (ℕ → ℕ → Bool) → ((ℕ → Bool) → ℕ → Bool) → ℕ → Bool
pass m before test i = pass_after m before test m i
