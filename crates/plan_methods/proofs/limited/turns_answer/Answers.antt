use mathlib.Core.Path.{refl}
use native.Mathlib.Omega.{arith}
use lib.ListN.{length}
use Rattle.table.specs.Table.{of_slices}
use Rattle.table.proofs.Faults.{room_good}
use Rattle.plan_slse.proofs.Turns.{size}
use Rattle.plan_methods.proofs.Answers.{plans_made, turns_made, numbered}
use Rattle.plan_methods.proofs.limited.turns_answer.Goals as goal

pub by_turns-requires : goal.by_turns-requires
by_turns-requires c =
    let a = c.args in
    let p = c.requires in
    let r = room_good a.table.probes a.table.links (length a.table.needs.now) (length a.table.lows.now) (length a.table.highs.now) (length a.table.costs.now) p.1 in
    (p.0, r.needed, r.linked, omega arith, omega arith, p.2, p.3, p.4)

pub answer-requires : goal.answer-requires
answer-requires c =
    let a = c.args in
    let p = c.requires in
    let z = size a.table.probes a.table.links a.table.needs.now a.table.lows.now a.table.highs.now a.table.costs.now p.0 in
    let r = room_good a.table.probes a.table.links (length a.table.needs.now) (length a.table.lows.now) (length a.table.highs.now) (length a.table.costs.now) p.1 in
    (omega (arith, c.by_turns.auto.plan, p.2), omega arith, z.within)

pub returns : goal.returns
returns c =
    λ number.
    let a = c.args in
    let p = c.requires in
    let t = of_slices number a.table.probes a.table.links a.table.needs.now a.table.lows.now a.table.highs.now a.table.costs.now in
    let b = c.by_turns in
    let plan = numbered a.table.number number a.table.probes a.table.links a.table.needs.now a.table.lows.now a.table.highs.now a.table.costs.now a.plan.now _ b.ensures.plan_after in
    turns_made 0 t _ a.plan.now _ a.work.now _ refl (plans_made 0 t _ a.plan.now _ refl p.2 plan c.answer.ensures) b.ensures.work_after
