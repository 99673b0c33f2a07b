use Rattle.table.specs.Table.{Table}
use Rattle.fleet_theory.specs.Fleet.{own}
use Rattle.fleet_rules.specs.declared.Side.TheVariants.{Out}
use Rattle.fleet_rules.proofs.Passing.{surveyed_same}
use Rattle.fleet_rules.proofs.Outcomes.{spare_counted, opening_full, opening_none, opening_one}
use Rattle.table.specs.Slices.{as_slices, table_of}
use Rattle.fleet_rules.proofs.decisions.decide_opening.Goals as goal

pub returns-then-spare_at-s : goal.returns-then-spare_at-s
returns-then-spare_at-s c =
    let a = c.args in
    let t : Table = (table_of (as_slices a.table)) in
    opening_full t a.probe (own t a.probe a.rec.now) c.survey-s.result _ (spare_counted t a.probe _ _ (c.requires.3 a.probe) c.spare_at.ensures) (surveyed_same Out a.table.number a.table.probes a.table.links a.table.needs.now a.table.lows.now a.table.highs.now a.table.costs.now a.probe a.rec.now _ c.survey-s.ensures) c.if-spare_at-s.true

pub returns-then-links-s : goal.returns-then-links-s
returns-then-links-s c =
    let a = c.args in
    let t : Table = (table_of (as_slices a.table)) in
    opening_none t a.probe (own t a.probe a.rec.now) c.survey-s.result _ (spare_counted t a.probe _ _ (c.requires.3 a.probe) c.spare_at.ensures) (surveyed_same Out a.table.number a.table.probes a.table.links a.table.needs.now a.table.lows.now a.table.highs.now a.table.costs.now a.probe a.rec.now _ c.survey-s.ensures) c.if-spare_at-s.false c.if-links-s.true

pub returns : goal.returns
returns c =
    let a = c.args in
    let t : Table = (table_of (as_slices a.table)) in
    opening_one t a.probe (own t a.probe a.rec.now) c.survey-s.result _ (spare_counted t a.probe _ _ (c.requires.3 a.probe) c.spare_at.ensures) (surveyed_same Out a.table.number a.table.probes a.table.links a.table.needs.now a.table.lows.now a.table.highs.now a.table.costs.now a.probe a.rec.now _ c.survey-s.ensures) c.if-spare_at-s.false c.if-links-s.false
