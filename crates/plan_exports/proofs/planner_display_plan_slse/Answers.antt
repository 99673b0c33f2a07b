use Rattle.table.specs.Slices.{slices_of}
use Rattle.plan_exports.proofs.Answers.{slse_packed}
use Rattle.plan_exports.proofs.planner_display_plan_slse.Goals as goal

pub returns : goal.returns
returns c =
    let a = c.args in
    slse_packed 16 40 (slices_of a.number a.probes a.links a.needs.now a.lows.now a.highs.now a.costs.now) _ _ a.plan.now _ c.plan_by_slse.ensures c.packed_planning.ensures
