-- One test of two ends, read as "an end is below" and as "both ends are over".
use Prim.Native.Nat.{ℕ, ◌+◌}
use mathlib.Core.Path.{◌≡◌, refl}
use mathlib.Core.Bool.{Bool, true, false, cond, ◌&&◌, ◌||◌}
use mathlib.Core.List.{List}
use native.Mathlib.Omega.{arith}
use lib.Dec.{ltb}
use Rattle.table.specs.Table.{item}
use Rattle.plan_slse.specs.Steps.{ends_below, either_below, both_over}

none_of : (x y : Bool) → cond x 1 0 + cond y 1 0 ≡ 0 → (x || y) ≡ false
none_of true true e = absurd (omega arith)
none_of true false e = absurd (omega arith)
none_of false true e = absurd (omega arith)
none_of false false e = refl

some_of : (x y : Bool) → (cond x 1 0 + cond y 1 0 ≡ 0 → ⊥) → (x || y) ≡ true
some_of true y n = refl
some_of false true n = refl
some_of false false n = absurd (n (omega arith))

two_of : (x y : Bool) → cond x 1 0 + cond y 1 0 ≡ 2 → (x && y) ≡ true
two_of true true e = refl
two_of true false e = absurd (omega arith)
two_of false true e = absurd (omega arith)
two_of false false e = absurd (omega arith)

not_two_of : (x y : Bool) → (cond x 1 0 + cond y 1 0 ≡ 2 → ⊥) → (x && y) ≡ false
not_two_of true true n = absurd (n (omega arith))
not_two_of true false n = refl
not_two_of false y n = refl

module _ (counts needs : List ℕ) (low high r : ℕ) where
  pub none_below : r ≡ ends_below counts needs low high → r ≡ 0 → either_below counts needs low high ≡ false
  none_below e z = none_of (ltb (item counts low) (item needs low)) (ltb (item counts high) (item needs high)) (omega arith)

  pub some_below : r ≡ ends_below counts needs low high → (r ≡ 0 → ⊥) → either_below counts needs low high ≡ true
  some_below e n = some_of (ltb (item counts low) (item needs low)) (ltb (item counts high) (item needs high)) (λ z. n (omega arith))

  pub two_over : r ≡ ends_below needs counts low high → r ≡ 2 → both_over counts needs low high ≡ true
  two_over e z = two_of (ltb (item needs low) (item counts low)) (ltb (item needs high) (item counts high)) (omega arith)

  pub not_two_over : r ≡ ends_below needs counts low high → (r ≡ 2 → ⊥) → both_over counts needs low high ≡ false
  not_two_over e n = not_two_of (ltb (item needs low) (item counts low)) (ltb (item needs high) (item counts high)) (λ z. n (omega arith))
