use borrow.Author.Rules.{rules}
use Rattle.table.specs.Table.{of_slices}
use Rattle.probe.specs.declared.Kind.TheVariants.{Offer}
use Rattle.probe_maps.specs.Maps.{rows, bytes_of}
use Rattle.probe_exports.proofs.Answers.{asks_packed}
use Rattle.probe_exports.proofs.planner_probe_ask_offer.Goals as goal

pub returns : goal.returns
returns c =
    let a = c.args in
    asks_packed _ (of_slices a.number a.probes a.links a.needs.now a.lows.now a.highs.now a.costs.now) a.probe Offer a.link (bytes_of a.links (rows a.standing.now a.refused_out.now a.held.now a.refused_in.now)) _ _ a.out.now _ c.ask.ensures c.packed_asked.ensures
