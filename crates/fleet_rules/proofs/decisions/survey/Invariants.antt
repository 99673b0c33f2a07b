-- Invariant: i is an own link, or there is none left; the numbers are those of the links before it. Measure: the links left.
use Prim.Native.Nat.{◌-◌, ◌≤◌, ◌<◌}
use mathlib.Core.Path.{◌≡◌}
use mathlib.Core.Bool.{true}
use mathlib.Core.List.{[]}
use Rattle.table.specs.Table.{Table, of_slices, touches}
use Rattle.fleet_theory.specs.Fleet.{own}
use Rattle.fleet_rules.specs.Sides.{wanted, side_byte, side_better}
use Rattle.fleet_rules.proofs.Passing.{Passing}
use Rattle.fleet_rules.proofs.decisions.survey.Given as goal

abbrev pub invariant-loop-i : goal.invariant-loop-i
invariant-loop-i l =
    let t : Table = of_slices 0 0 l.links [] l.lows l.highs l.costs in
    (l.i ≤ l.links) × (l.i < l.links → touches t l.probe l.i ≡ true) × Passing t l.probe (side_byte l.side (own t l.probe l.rec)) (side_better l.side t) (wanted l.side) l.i l.s

abbrev pub decreases-loop-i : goal.decreases-loop-i
decreases-loop-i l = l.links - l.i
