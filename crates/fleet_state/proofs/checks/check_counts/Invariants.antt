-- Invariant: no probe before v is over its spare.
use Prim.Native.Nat.{ℕ, ◌-◌}
use mathlib.Core.Path.{◌≡◌}
use mathlib.Core.List.{List}
use Rattle.range.specs.First.{first}
use Rattle.table.specs.Table.{item}
use Rattle.fleet_state.specs.Faults.{over_fault}
use Rattle.fleet_state.proofs.checks.check_counts.Given as goal

abbrev pub fault : List ℕ → List ℕ → List ℕ → List ℕ → ℕ → ℕ
fault rules degrees standing held v = over_fault (item degrees v - item rules v) (item standing v) (item held v)

abbrev pub invariant-loop-v : goal.invariant-loop-v
invariant-loop-v l = first (fault l.needs l.degrees l.standing l.held) l.v ≡ 0
