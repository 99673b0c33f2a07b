use mathlib.Core.Path.{refl}
use native.Mathlib.Omega.{arith}
use lib.ListN.{length}
use Rattle.table.specs.Table.{of_slices}
use Rattle.table.proofs.Faults.{room_good}
use Rattle.plan_slse.proofs.Turns.{size}
use Rattle.plan_methods.proofs.Answers.{plans_made, numbered}
use Rattle.plan_methods.proofs.limited.slse_answer.Goals as goal

pub slse_plan-requires : goal.slse_plan-requires
slse_plan-requires c =
    c.requires

pub answer-requires : goal.answer-requires
answer-requires c =
    let a = c.args in
    let p = c.requires in
    let z = size p.probes a.table.links a.table.needs.now a.table.lows.now a.table.highs.now a.table.costs.now p.legal in
    let r = room_good p.probes a.table.links (length a.table.needs.now) (length a.table.lows.now) (length a.table.highs.now) (length a.table.costs.now) p.room in
    (omega (arith, c.slse_plan.auto.plan, p.in_plan), omega arith, z.within)

pub returns : goal.returns
returns c =
    λ number probes wide legal.
    let a = c.args in
    let p = c.requires in
    let plan = numbered 0 number probes a.table.links a.table.needs.now a.table.lows.now a.table.highs.now a.table.costs.now a.plan.now _ (c.slse_plan.ensures probes wide legal) in
    plans_made 0 (of_slices number probes a.table.links a.table.needs.now a.table.lows.now a.table.highs.now a.table.costs.now) _ a.plan.now _ refl p.in_plan plan c.answer.ensures
