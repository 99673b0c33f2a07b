use mathlib.Core.List.{[]}
use native.Mathlib.Omega.{arith}
use lib.ListN.{length}
use Rattle.table.specs.Table.{of_slices}
use Rattle.fleet_rules.proofs.Own.{mark_below}
use Rattle.fleet_rules.proofs.own_bytes.own_mark.Goals as goal

pub overflow_add-result : goal.overflow_add-result
overflow_add-result c =
    let a = c.args in
    let b = mark_below a.side (of_slices 0 0 0 [] a.lows.now [] []) a.probe _ 524288 c.requires.2 in
    rw c.own_at.ensures (omega (arith, b))

pub bounds-rec-own_at : goal.bounds-rec-own_at
bounds-rec-own_at c =
    let a = c.args in
    let p = c.requires in
    let b = mark_below a.side (of_slices 0 0 0 [] a.lows.now [] []) a.probe a.i (length a.rec.now) (omega (arith, p.3)) in
    rw c.own_at.ensures (omega (arith, b))
