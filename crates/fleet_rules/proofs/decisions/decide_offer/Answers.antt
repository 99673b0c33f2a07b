use mathlib.Core.Path.{sym, ◌∙◌}
use native.Mathlib.Omega.{arith}
use Rattle.table.specs.Table.{Table}
use Rattle.plan_theory.proofs.Order.{dearer_by_place_lem}
use Rattle.fleet_theory.specs.Fleet.{own}
use Rattle.fleet_rules.specs.declared.Side.TheVariants.{In}
use Rattle.fleet_rules.proofs.Passing.{surveyed_same}
use Rattle.fleet_rules.proofs.Outcomes.{spare_counted, offer_taken, offer_none, offer_displacing, offer_refused}
use Rattle.table.specs.Slices.{as_slices, table_of}
use Rattle.fleet_rules.proofs.decisions.decide_offer.Goals as goal

pub returns-then-s-spare_at : goal.returns-then-s-spare_at
returns-then-s-spare_at c =
    let a = c.args in
    let t : Table = (table_of (as_slices a.table)) in
    offer_taken t a.probe (own t a.probe a.rec.now) c.survey-s.result _ (spare_counted t a.probe _ _ (c.requires.4 a.probe) c.spare_at.ensures) (surveyed_same In a.table.number a.table.probes a.table.links a.table.needs.now a.table.lows.now a.table.highs.now a.table.costs.now a.probe a.rec.now _ c.survey-s.ensures) a.i c.if-s-spare_at.true

pub returns-then-links-displaced : goal.returns-then-links-displaced
returns-then-links-displaced c =
    let a = c.args in
    let t : Table = (table_of (as_slices a.table)) in
    offer_none t a.probe (own t a.probe a.rec.now) c.survey-s.result _ (spare_counted t a.probe _ _ (c.requires.4 a.probe) c.spare_at.ensures) (surveyed_same In a.table.number a.table.probes a.table.links a.table.needs.now a.table.lows.now a.table.highs.now a.table.costs.now a.probe a.rec.now _ c.survey-s.ensures) a.i c.if-s-spare_at.false c.if-links-displaced.true

pub dearer-requires : goal.dearer-requires
dearer-requires c =
    let p = c.requires in
    (omega (arith, p.0.in_costs, p.2), omega (arith, p.0.in_costs, c.if-links-displaced.false))

pub returns-then-dearer : goal.returns-then-dearer
returns-then-dearer c =
    let a = c.args in
    let p = c.requires in
    let t : Table = (table_of (as_slices a.table)) in
    let d = dearer_by_place_lem t (record { rising = p.0.order.rising }) a.i _ p.2 c.if-links-displaced.false ∙ sym c.dearer.ensures ∙ c.if-dearer.true in
    offer_displacing t a.probe (own t a.probe a.rec.now) c.survey-s.result _ (spare_counted t a.probe _ _ (c.requires.4 a.probe) c.spare_at.ensures) (surveyed_same In a.table.number a.table.probes a.table.links a.table.needs.now a.table.lows.now a.table.highs.now a.table.costs.now a.probe a.rec.now _ c.survey-s.ensures) a.i c.if-s-spare_at.false c.if-links-displaced.false d

pub returns : goal.returns
returns c =
    let a = c.args in
    let p = c.requires in
    let t : Table = (table_of (as_slices a.table)) in
    let d = dearer_by_place_lem t (record { rising = p.0.order.rising }) a.i _ p.2 c.if-links-displaced.false ∙ sym c.dearer.ensures ∙ c.if-dearer.false in
    offer_refused t a.probe (own t a.probe a.rec.now) c.survey-s.result _ (spare_counted t a.probe _ _ (c.requires.4 a.probe) c.spare_at.ensures) (surveyed_same In a.table.number a.table.probes a.table.links a.table.needs.now a.table.lows.now a.table.highs.now a.table.costs.now a.probe a.rec.now _ c.survey-s.ensures) a.i c.if-s-spare_at.false c.if-links-displaced.false d
