use borrow.Author.Rules.{rules}
use Rattle.table.specs.Table.{of_slices}
use Rattle.probe_maps.specs.Maps.{rows}
use Rattle.probe_rules.specs.declared.Event.TheVariants.{Opening}
use Rattle.probe_exports.proofs.Answers.{logged_packed}
use Rattle.probe_exports.proofs.planner_probe_open_logged.Goals as goal

pub returns : goal.returns
returns c =
    let a = c.args in
    logged_packed _ (of_slices a.number a.probes a.links a.needs.now a.lows.now a.highs.now a.costs.now) a.probe Opening _ _ (rows a.standing.now a.refused_out.now a.held.now a.refused_in.now) _ a.used a.log.now _ (rw c.free.ensures at c.open-answer.ensures) c.store.ensures
