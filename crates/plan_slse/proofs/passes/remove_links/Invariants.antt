-- Invariant: for every legal table of these links in this order, from what it adds, k turns of the way down are done.
use Prim.Native.Nat.{ℕ, ◌≤◌, ◌<◌}
use mathlib.Core.Path.{◌≡◌}
use mathlib.Core.List.{List}
use lib.ListN.{length, get_or}
use Rattle.table.specs.Table.{of_slices}
use Rattle.plan_theory.specs.Plan.{links_at, added, plan_byte}
use Rattle.plan_slse.specs.FromDearest.{InOrder}
use Rattle.plan_slse.proofs.Turns.{Down}
use Rattle.plan_slse.proofs.passes.remove_links.Given as goal

abbrev pub invariant-loop-k : goal.invariant-loop-k
invariant-loop-k l =
    (probes : ℕ) (costs : List ℕ) → probes ≤ length l.initial.counts → InOrder (of_slices 0 probes l.table.links l.table.needs.now l.table.lows.now l.table.highs.now costs) l.order
    → ((j : ℕ) → j < l.table.links → get_or l.initial.plan j 0 ≡ plan_byte (added (of_slices 0 probes l.table.links l.table.needs.now l.table.lows.now l.table.highs.now costs) j))
    → ((v : ℕ) → v < probes → get_or l.initial.counts v 0 ≡ links_at (of_slices 0 probes l.table.links l.table.needs.now l.table.lows.now l.table.highs.now costs) (added (of_slices 0 probes l.table.links l.table.needs.now l.table.lows.now l.table.highs.now costs)) v)
    → Down probes l.table.links l.table.needs.now l.table.lows.now l.table.highs.now costs l.k l.initial.plan l.plan l.counts
