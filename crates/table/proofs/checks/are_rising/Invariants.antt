-- Invariant: where no link before i was found bad, none of them has a fault; low0 and high0 are the ends of the link before i, if there is one.
use Prim.Native.Nat.{◌-◌}
use mathlib.Core.Path.{◌≡◌}
use mathlib.Core.Bool.{false}
use Rattle.range.specs.First.{first}
use Rattle.table.specs.Table.{item}
use Rattle.table.specs.Legal.{link_fault}
use Rattle.table.proofs.checks.are_rising.Given as goal

abbrev pub invariant-loop-i : goal.invariant-loop-i
invariant-loop-i l = (l.bad ≡ false → first (link_fault l.probes (item l.lows) (item l.highs)) l.i ≡ 0) × ((l.i ≡ 0 → ⊥) → (l.low0 ≡ item l.lows (l.i - 1)) × (l.high0 ≡ item l.highs (l.i - 1)))
