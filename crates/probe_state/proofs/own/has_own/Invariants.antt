-- Invariant: where no link before i was found the probe's, none of them from `start` on is.
use Prim.Native.Nat.{ℕ, ◌≤◌, ◌<◌}
use mathlib.Core.Path.{◌≡◌}
use mathlib.Core.Bool.{false}
use mathlib.Core.List.{[]}
use Rattle.table.specs.Table.{of_slices, touches}
use Rattle.probe_state.proofs.own.has_own.Given as goal

abbrev pub invariant-loop-i : goal.invariant-loop-i
invariant-loop-i l = l.any ≡ false → (j : ℕ) → l.start ≤ j → j < l.i → touches (of_slices 0 0 0 [] l.lows l.highs []) l.probe j ≡ false
