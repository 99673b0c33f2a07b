-- Invariant: each probe's count is that of the first i links.
use Prim.Native.Nat.{ℕ}
use mathlib.Core.Path.{◌≡◌}
use lib.ListN.{get_or}
use Rattle.table.specs.Table.{item}
use Rattle.fleet_state.proofs.CountLaws.{counted_at}
use Rattle.fleet_state.proofs.counts.count_bytes.Given as goal

abbrev pub invariant-loop-i : goal.invariant-loop-i
invariant-loop-i l = (v : ℕ) → get_or l.counts v 0 ≡ counted_at (item l.lows) (item l.highs) l.rec l.k l.m l.value l.i v
