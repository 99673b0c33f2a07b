-- Invariant: each probe's count is that of the first i links.
use Prim.Native.Nat.{ℕ}
use mathlib.Core.Path.{◌≡◌}
use lib.ListN.{get_or}
use Rattle.table.specs.Table.{item}
use Rattle.table.proofs.DegreeLaws.{touched}
use Rattle.table.proofs.degrees.count_degrees.Given as goal

abbrev pub invariant-loop-i : goal.invariant-loop-i
invariant-loop-i l = (v : ℕ) → get_or l.counts v 0 ≡ touched (item l.lows) (item l.highs) l.i v
