use mathlib.Core.List.{[]}
use lib.ListN.{length-set}
use native.Mathlib.Omega.{arith}
use Rattle.table.specs.Table.{of_slices}
use Rattle.fleet_rules.specs.declared.Side.TheVariants.{Out, In}
use Rattle.fleet_rules.proofs.Own.{mark_below, byte_below}
use Rattle.fleet_rules.proofs.own_bytes.alter_fleet.Goals as goal

pub bounds-rec-at : goal.bounds-rec-at
bounds-rec-at c =
    let a = c.args in
    let w = rw c.in-Opened.is at c.requires.0 in
    rw c.own_at-at.ensures (byte_below Out (of_slices 0 0 0 [] a.lows.now [] []) a.probe _ _ w)

pub overflow_add-rec : goal.overflow_add-rec
overflow_add-rec c =
    let a = c.args in
    let w = rw c.in-Opened.is at c.requires.2 in
    let b = mark_below Out (of_slices 0 0 0 [] a.lows.now [] []) a.probe _ 524288 w in
    rw c.own_at-at.ensures (omega (arith, b))

pub bounds-rec-at-in-Opened : goal.bounds-rec-at-in-Opened
bounds-rec-at-in-Opened c =
    let a = c.args in
    let w = rw c.in-Opened.is at c.requires.0 in
    simp length-set (rw c.own_at-at.ensures (mark_below Out (of_slices 0 0 0 [] a.lows.now [] []) a.probe _ _ w))

pub bounds-rec-at-in-Taken : goal.bounds-rec-at-in-Taken
bounds-rec-at-in-Taken c =
    let a = c.args in
    let w = rw c.in-Taken.is at c.requires.0 in
    rw c.own_at-at-in-Taken.ensures (byte_below In (of_slices 0 0 0 [] a.lows.now [] []) a.probe _ _ w)

pub bounds-rec-at-in-TakenDisplacing : goal.bounds-rec-at-in-TakenDisplacing
bounds-rec-at-in-TakenDisplacing c =
    let a = c.args in
    let w = rw c.in-TakenDisplacing.is at c.requires.0 in
    rw c.own_at-at-in-TakenDisplacing.ensures (byte_below In (of_slices 0 0 0 [] a.lows.now [] []) a.probe _ _ w.0)

pub bounds-rec-displaced_at : goal.bounds-rec-displaced_at
bounds-rec-displaced_at c =
    let a = c.args in
    let w = rw c.in-TakenDisplacing.is at c.requires.0 in
    simp length-set (rw c.own_at-displaced_at.ensures (byte_below In (of_slices 0 0 0 [] a.lows.now [] []) a.probe _ _ w.1))

pub overflow_add-rec-in-TakenDisplacing : goal.overflow_add-rec-in-TakenDisplacing
overflow_add-rec-in-TakenDisplacing c =
    let a = c.args in
    let w = rw c.in-TakenDisplacing.is at c.requires.2 in
    let b = mark_below In (of_slices 0 0 0 [] a.lows.now [] []) a.probe _ 524288 w.1 in
    rw c.own_at-displaced_at.ensures (omega (arith, b))

pub bounds-rec-displaced_at-in-TakenDisplacing : goal.bounds-rec-displaced_at-in-TakenDisplacing
bounds-rec-displaced_at-in-TakenDisplacing c =
    let a = c.args in
    let w = rw c.in-TakenDisplacing.is at c.requires.0 in
    simp length-set (rw c.own_at-displaced_at.ensures (mark_below In (of_slices 0 0 0 [] a.lows.now [] []) a.probe _ _ w.1))

pub bounds-rec-at-in-Refused : goal.bounds-rec-at-in-Refused
bounds-rec-at-in-Refused c =
    let a = c.args in
    let w = rw c.in-Refused.is at c.requires.0 in
    rw c.own_at-at-in-Refused.ensures (byte_below In (of_slices 0 0 0 [] a.lows.now [] []) a.probe _ _ w)

pub overflow_add-rec-in-Refused : goal.overflow_add-rec-in-Refused
overflow_add-rec-in-Refused c =
    let a = c.args in
    let w = rw c.in-Refused.is at c.requires.2 in
    let b = mark_below In (of_slices 0 0 0 [] a.lows.now [] []) a.probe _ 524288 w in
    rw c.own_at-at-in-Refused.ensures (omega (arith, b))

pub bounds-rec-at-in-Refused-2 : goal.bounds-rec-at-in-Refused-2
bounds-rec-at-in-Refused-2 c =
    let a = c.args in
    let w = rw c.in-Refused.is at c.requires.0 in
    simp length-set (rw c.own_at-at-in-Refused.ensures (mark_below In (of_slices 0 0 0 [] a.lows.now [] []) a.probe _ _ w))

pub bounds-rec-at-in-RefusalLearnt : goal.bounds-rec-at-in-RefusalLearnt
bounds-rec-at-in-RefusalLearnt c =
    let a = c.args in
    let w = rw c.in-RefusalLearnt.is at c.requires.0 in
    rw c.own_at-at-in-RefusalLearnt.ensures (byte_below Out (of_slices 0 0 0 [] a.lows.now [] []) a.probe _ _ w)
