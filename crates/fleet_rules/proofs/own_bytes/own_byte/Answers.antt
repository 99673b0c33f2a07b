use mathlib.Core.List.{[]}
use native.Mathlib.Omega.{arith}
use Rattle.table.specs.Table.{of_slices}
use Rattle.fleet_rules.proofs.Own.{byte_below}
use Rattle.fleet_rules.proofs.own_bytes.own_byte.Goals as goal

pub bounds-rec-own_at : goal.bounds-rec-own_at
bounds-rec-own_at c =
    let a = c.args in
    let p = c.requires in
    rw c.own_at.ensures (byte_below a.side (of_slices 0 0 0 [] a.lows.now [] []) a.probe a.i _ (omega (arith, p.3)))
