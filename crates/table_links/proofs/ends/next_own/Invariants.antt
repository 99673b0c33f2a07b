-- Invariant: no link from the given place up to i is the probe's.
use Prim.Native.Nat.{ℕ, ◌≤◌, ◌<◌}
use mathlib.Core.Path.{◌≡◌}
use mathlib.Core.Bool.{false}
use mathlib.Core.List.{[]}
use Rattle.table.specs.Table.{of_slices, touches}
use Rattle.table_links.proofs.ends.next_own.Given as goal

abbrev pub invariant-loop-i : goal.invariant-loop-i
invariant-loop-i l = (j : ℕ) → l.from ≤ j → j < l.i → touches (of_slices 0 0 l.links [] l.lows l.highs []) l.probe j ≡ false
