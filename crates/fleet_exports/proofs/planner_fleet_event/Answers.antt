use Rattle.table.specs.Slices.{slices_of}
use Rattle.fleet_exports.proofs.Answers.{handled_packed}
use Rattle.fleet_exports.proofs.planner_fleet_event.Goals as goal

pub returns : goal.returns
returns c =
    let a = c.args in
    handled_packed (slices_of a.number a.probes a.links a.needs.now a.lows.now a.highs.now a.costs.now) a.used a.room a.line.now _ _ a.rec.now _ c.event.ensures c.packed_answer.ensures
