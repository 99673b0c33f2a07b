-- Invariant: the first v probes have their spare, the others their counted links.
use Prim.Native.Nat.{◌-◌}
use mathlib.Core.Path.{◌≡◌}
use Rattle.range.specs.Lists.{stored}
use Rattle.table.specs.Table.{item}
use Rattle.plan_turns.proofs.method.take_needs.Given as goal

abbrev pub invariant-loop-v : goal.invariant-loop-v
invariant-loop-v l = l.counts ≡ stored (λ k. item l.initial.counts k - item l.needs k) l.v l.initial.counts
