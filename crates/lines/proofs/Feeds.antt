-- Where the first line feed stands.
use mathlib.Core.Path.{◌≡◌, refl}
use mathlib.Core.Bool.{Bool, true, false, cond}
use mathlib.Core.List.{List, [], ◌∷◌}
use Prim.Native.Nat.{ℕ, zero, suc, ◌≤◌, ◌<◌}
use native.Mathlib.Omega.{arith}
use lib.Dec.{eqb}
use lib.ListN.{length, get_or}
use borrow.Author.Tests.{eqb-true, eqb-false}
use Rattle.lines.specs.Line.{until_feed}

-- the count is at most the length
pub until_le : (s : List ℕ) → until_feed s ≤ length s
unfolding until_feed
until_le [] = omega arith
until_le (b ∷ bs) = by_test (eqb b 10) (until_le bs)
  where
    by_test : (t : Bool) → until_feed bs ≤ length bs → cond t 0 (suc (until_feed bs)) ≤ suc (length bs)
    by_test true h = omega arith
    by_test false h = omega arith

-- where it is less, a line feed stands there
pub until_at : (s : List ℕ) → until_feed s < length s → get_or s (until_feed s) 0 ≡ 10
unfolding until_feed
until_at [] h = absurd (omega arith)
until_at (b ∷ bs) h = by_test (eqb b 10) refl (until_at bs) h
  where
    by_test : (t : Bool) → eqb b 10 ≡ t → (until_feed bs < length bs → get_or bs (until_feed bs) 0 ≡ 10) → cond t 0 (suc (until_feed bs)) < suc (length bs) → get_or (b ∷ bs) (cond t 0 (suc (until_feed bs))) 0 ≡ 10
    by_test true e later h = eqb-true b 10 e
    by_test false e later h = later (omega arith)

-- and none stands before
pub until_before : (s : List ℕ) (j : ℕ) → j < until_feed s → get_or s j 0 ≡ 10 → ⊥
unfolding until_feed
until_before [] j h = absurd (omega arith)
until_before (b ∷ bs) j h = by_test (eqb b 10) refl j (until_before bs) h
  where
    by_test : (t : Bool) → eqb b 10 ≡ t → (j : ℕ) → ((k : ℕ) → k < until_feed bs → get_or bs k 0 ≡ 10 → ⊥) → j < cond t 0 (suc (until_feed bs)) → get_or (b ∷ bs) j 0 ≡ 10 → ⊥
    by_test true e j later h = absurd (omega arith)
    by_test false e zero later h = eqb-false b 10 e
    by_test false e (suc j) later h = later j (omega arith)

-- the first line feed is the one before which none stands
pub until_is : (s : List ℕ) (k : ℕ) → k < length s → get_or s k 0 ≡ 10 → ((j : ℕ) → j < k → get_or s j 0 ≡ 10 → ⊥) → until_feed s ≡ k
until_is s k h e none =
    let p : until_feed s < k → ⊥ = λ l. none (until_feed s) l (until_at s (omega arith)) in
    let q : k < until_feed s → ⊥ = λ l. until_before s k l e in
    omega arith
