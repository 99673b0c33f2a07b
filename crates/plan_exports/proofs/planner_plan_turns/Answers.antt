use Rattle.table.specs.Slices.{slices_of}
use Rattle.plan_exports.proofs.Answers.{turns_packed}
use Rattle.plan_exports.proofs.planner_plan_turns.Goals as goal

pub returns : goal.returns
returns c =
    let a = c.args in
    turns_packed 256 2048 (slices_of a.number a.probes a.links a.needs.now a.lows.now a.highs.now a.costs.now) _ _ a.plan.now _ a.work.now _ c.plan_by_turns.ensures c.packed_planning.ensures
