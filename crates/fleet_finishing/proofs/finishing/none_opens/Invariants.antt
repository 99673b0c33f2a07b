-- Invariant: no probe before v would open a link.
use Prim.Native.Nat.{ℕ, ◌-◌}
use mathlib.Core.Path.{◌≡◌}
use mathlib.Core.Bool.{Bool}
use mathlib.Core.List.{List}
use Rattle.range.specs.Sum.{count}
use Rattle.table.specs.Table.{item}
use Rattle.fleet_finishing.specs.Opening.{may_open}
use Rattle.fleet_finishing.proofs.finishing.none_opens.Given as goal

abbrev pub may : List ℕ → List ℕ → List ℕ → List ℕ → ℕ → Bool
may rules degrees standing untried v = may_open (item standing v) (item degrees v - item rules v) (item untried v)

abbrev pub invariant-loop-v : goal.invariant-loop-v
invariant-loop-v l = count l.v (may l.needs l.degrees l.standing l.untried) ≡ 0
