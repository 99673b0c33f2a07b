-- No check of a table has the fault 7: a text's and a table's own are less, and lent slices have 8.
use Prim.Native.Nat.{ℕ, zero, suc, ◌≤◌}
use mathlib.Core.Path.{◌≡◌}
use mathlib.Core.Bool.{Bool, true, false, cond, not, ◌||◌}
use mathlib.Core.List.{List}
use native.Mathlib.Omega.{arith}
use lib.Dec.{ltb, eqb}
use lib.ListN.{length}
use Rattle.range.specs.First.{or_else}
use Rattle.table.specs.Legal.{table_fault, room_fault}
use Rattle.table.specs.Text.{of_text, text_fault, read_fault}
use Rattle.table.specs.Slices.{Slices, table_of, slices_room_fault, slice_fault}
use Rattle.table.specs.Withdrawn.{SevenWithdrawn}
use Rattle.table.proofs.Largest.{table_most, text_most}

or_not : (a b : ℕ) → (a ≡ 7 → ⊥) → (b ≡ 7 → ⊥) → or_else a b ≡ 7 → ⊥
or_not zero b n m = m
or_not (suc a) b n m = n

most_not : {a : ℕ} → a ≤ 6 → a ≡ 7 → ⊥
most_not l e = omega arith

room_not : (probes links needs lows highs costs : ℕ) → room_fault probes links needs lows highs costs ≡ 7 → ⊥
room_not probes links needs lows highs costs = go (ltb needs probes || (not (eqb lows highs) || (not (eqb highs costs) || ltb lows links)))
  where
    go : (b : Bool) → ◌≡◌ {A = ℕ} (cond b 8 0) 7 → ⊥
    go true e = omega arith
    go false e = omega arith

of_text_lem : (pmax lmax : ℕ) (more : Bool) (s : List ℕ) (needs lows highs costs : ℕ) → read_fault pmax lmax more s needs lows highs costs ≡ 7 → ⊥
unfolding read_fault
of_text_lem pmax lmax more s needs lows highs costs =
    or_not (text_fault pmax lmax more s) (room_fault (of_text s).probes (of_text s).links needs lows highs costs)
    (most_not (text_most pmax lmax more s)) (room_not (of_text s).probes (of_text s).links needs lows highs costs)

of_slices_lem : (pmax lmax : ℕ) (x : Slices) → slice_fault pmax lmax x ≡ 7 → ⊥
of_slices_lem pmax lmax x =
    or_not (slices_room_fault x) (table_fault pmax lmax (table_of x))
    (room_not x.probes x.links (length x.needs) (length x.lows) (length x.highs) (length x.costs))
    (most_not (table_most pmax lmax (table_of x)))

pub seven_withdrawn : (pmax lmax : ℕ) → SevenWithdrawn pmax lmax
seven_withdrawn pmax lmax = record { of_text_lem = of_text_lem pmax lmax; of_slices_lem = of_slices_lem pmax lmax }
