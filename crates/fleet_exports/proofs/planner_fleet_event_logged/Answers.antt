use Rattle.table.specs.Slices.{slices_of}
use Rattle.fleet_exports.proofs.Answers.{logged_packed}
use Rattle.fleet_exports.proofs.planner_fleet_event_logged.Goals as goal

pub returns : goal.returns
returns c =
    let a = c.args in
    logged_packed (slices_of a.number a.probes a.links a.needs.now a.lows.now a.highs.now a.costs.now) a.used a.line.now _ _ a.rec.now _ a.log.now _ c.event-answer.ensures c.store.ensures
