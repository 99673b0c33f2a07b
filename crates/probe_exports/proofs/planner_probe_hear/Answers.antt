use borrow.Author.Rules.{rules}
use Rattle.table.specs.Table.{of_slices}
use Rattle.probe_maps.specs.Maps.{rows}
use Rattle.probe_frame.specs.Frame.{frame_of}
use Rattle.probe_rules.specs.Frames.{heard_of}
use Rattle.probe_exports.proofs.Answers.{befallen_packed}
use Rattle.probe_exports.proofs.planner_probe_hear.Goals as goal

pub returns : goal.returns
returns c =
    let a = c.args in
    befallen_packed _ (of_slices a.number a.probes a.links a.needs.now a.lows.now a.highs.now a.costs.now) a.probe (heard_of (of_slices a.number a.probes a.links a.needs.now a.lows.now a.highs.now a.costs.now) (frame_of a.frame.now)) _ _ (rows a.standing.now a.refused_out.now a.held.now a.refused_in.now) _ c.hear.ensures c.packed_answer.ensures
