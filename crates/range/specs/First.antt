-- The first of several faults. A fault is the number of a refusal, or 0 for none.
use Rattle.std.specs.Prelude.{ℕ, zero, suc}

-- a, or b where a is none
abbrev pub or_else : ℕ → ℕ → ℕ
or_else zero b = b
or_else (suc a) b = suc a

-- the first of the faults f 0, f 1, .. f (n - 1)
unfoldable pub first : (ℕ → ℕ) → ℕ → ℕ
first f zero = 0
first f (suc n) = or_else (first f n) (f n)
