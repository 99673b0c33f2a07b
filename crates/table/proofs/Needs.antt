-- The counted need against the need as given.
use Prim.Native.Nat.{ℕ, ◌-◌, ◌≤◌, ◌<◌}
use mathlib.Core.Path.{◌≡◌}
use mathlib.Core.Bool.{true}
use native.Mathlib.Nat.{min-eq_left, min-eq_right}
use native.Mathlib.Decide.{dec_le}
use native.Mathlib.Omega.{arith}
use lib.Dec.{ltb}
use borrow.Author.Tests.{ltb-true, lt-ltb, le-ltb}
use Rattle.table.specs.Table.{Table, degree, counted_need, spare, is_short}

-- "Its spare is its number of links less its need": 0 where the need is larger
pub spare_given : (t : Table) (v : ℕ) → spare t v ≡ degree t v - t.need v
spare_given t v = go (dec_le (t.need v) (degree t v))
  where
    go : Dec (t.need v ≤ degree t v) → spare t v ≡ degree t v - t.need v
    go (yes l) = rw (min-eq_left l)
    go (no n) = let e : counted_need t v ≡ degree t v = min-eq_right (omega arith) in omega arith

-- "Such a probe has spare 0"
pub short_spare : (t : Table) (v : ℕ) → is_short t v ≡ true → spare t v ≡ 0
short_spare t v e = let l = ltb-true (degree t v) (t.need v) e in let s = spare_given t v in omega arith

-- at most as many links as v has are more than its counted need exactly when they are more than its need
pub over_given : (t : Table) (v n : ℕ) → n ≤ degree t v → ltb (counted_need t v) n ≡ ltb (t.need v) n
over_given t v n k = go (dec_le (t.need v) (degree t v))
  where
    go : Dec (t.need v ≤ degree t v) → ltb (counted_need t v) n ≡ ltb (t.need v) n
    go (yes l) = rw (min-eq_left l)
    go (no d) = rw (min-eq_right (let l : degree t v ≤ t.need v = omega arith in l), le-ltb (degree t v) n k, le-ltb (t.need v) n (omega arith))

-- fewer links than v has are fewer than its counted need exactly when they are fewer than its need
pub under_given : (t : Table) (v n : ℕ) → n < degree t v → ltb n (counted_need t v) ≡ ltb n (t.need v)
under_given t v n k = go (dec_le (t.need v) (degree t v))
  where
    go : Dec (t.need v ≤ degree t v) → ltb n (counted_need t v) ≡ ltb n (t.need v)
    go (yes l) = rw (min-eq_left l)
    go (no d) = rw (min-eq_right (let l : degree t v ≤ t.need v = omega arith in l), lt-ltb n (degree t v) k, lt-ltb n (t.need v) (omega arith))
