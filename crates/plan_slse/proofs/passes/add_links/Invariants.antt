-- Invariant: for every legal table of these links in this order, links - k turns of the way up are done; a probe counts at most one link for each.
use Prim.Native.Nat.{ℕ, ◌-◌, ◌≤◌, ◌<◌}
use mathlib.Core.List.{List}
use lib.ListN.{length}
use Rattle.table.specs.Table.{item, of_slices}
use Rattle.plan_slse.specs.FromDearest.{InOrder}
use Rattle.plan_slse.proofs.Turns.{Up}
use Rattle.plan_slse.proofs.passes.add_links.Given as goal

abbrev pub invariant-loop-k : goal.invariant-loop-k
invariant-loop-k l =
    ((probes : ℕ) (costs : List ℕ) → probes ≤ length l.initial.counts → InOrder (of_slices 0 probes l.table.links l.table.needs.now l.table.lows.now l.table.highs.now costs) l.order → Up probes l.table.links l.table.needs.now l.table.lows.now l.table.highs.now costs (l.table.links - l.k) l.initial.plan l.plan l.counts)
    × ((v : ℕ) → v < length l.initial.counts → item l.counts v ≤ l.table.links - l.k)
