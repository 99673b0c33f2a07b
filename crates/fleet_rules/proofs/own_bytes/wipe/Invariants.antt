-- Invariant: i is an own link, or there is none left; the record is wiped on the links before it. Measure: the links left.
use Prim.Native.Nat.{◌-◌, ◌≤◌, ◌<◌}
use mathlib.Core.Path.{◌≡◌}
use mathlib.Core.Bool.{true}
use mathlib.Core.List.{[]}
use lib.ListN.{length}
use Rattle.table.specs.Table.{Table, of_slices, touches}
use Rattle.fleet_theory.specs.Fleet.{wiped_to}
use Rattle.fleet_rules.proofs.own_bytes.wipe.Given as goal

abbrev pub invariant-loop-i : goal.invariant-loop-i
invariant-loop-i l =
    let t : Table = of_slices 0 0 l.links [] l.lows l.highs [] in
    (l.i ≤ l.links) × (l.i < l.links → touches t l.probe l.i ≡ true) × (l.rec ≡ wiped_to t l.probe l.i l.initial.rec) × (length l.rec ≡ length l.initial.rec)

abbrev pub decreases-loop-i : goal.decreases-loop-i
decreases-loop-i l = l.links - l.i
