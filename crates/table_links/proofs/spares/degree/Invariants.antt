-- Invariant: n is the number of the probe's links before i.
use Prim.Native.Nat.{ℕ, ◌≤◌}
use mathlib.Core.Path.{◌≡◌}
use mathlib.Core.List.{List, []}
use mathlib.Core.Bool.{Bool}
use Rattle.range.specs.Sum.{count}
use Rattle.table.specs.Table.{of_slices, touches}
use Rattle.table_links.proofs.spares.degree.Given as goal

abbrev pub own : List ℕ → List ℕ → ℕ → ℕ → Bool
own lows highs = touches (of_slices 0 0 0 [] lows highs [])

abbrev pub invariant-loop-i : goal.invariant-loop-i
invariant-loop-i l = (l.n ≡ count l.i (own l.lows l.highs l.probe)) × (l.n ≤ l.i)
