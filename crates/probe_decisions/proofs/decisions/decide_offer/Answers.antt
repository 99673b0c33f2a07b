use borrow.Author.Rules.{rules}
use native.Mathlib.Omega.{arith}
use mathlib.Core.Path.{sym, ◌∙◌}
use Rattle.probe_decisions.proofs.DecisionLaws.{offer_taken, offer_none_held, offer_displaces, offer_refused}
use Rattle.probe_decisions.proofs.decisions.decide_offer.Goals as goal

pub ones-requires : goal.ones-requires
ones-requires c =
    let r = c.requires.0 in
    omega (arith, r.in_held, r.few)

pub returns-then-ones-spare : goal.returns-then-ones-spare
returns-then-ones-spare c =
    λ t standing refused_out_lem refused_in_lem end. offer_taken end c.spare.ensures c.ones.ensures c.args.i c.if-ones-spare.true

pub best_in-displaced-requires : goal.best_in-displaced-requires
best_in-displaced-requires c =
    let r = c.requires.0 in
    (r.in_costs, omega (arith, r.in_held), omega (arith, r.in_held, r.few))

pub returns-then-links-displaced : goal.returns-then-links-displaced
returns-then-links-displaced c =
    λ t standing refused_out_lem refused_in_lem end. offer_none_held end c.spare.ensures c.ones.ensures c.args.i c.best_in-displaced.ensures c.if-ones-spare.false c.if-links-displaced.true

pub dearer-requires : goal.dearer-requires
dearer-requires c =
    let r = c.requires in
    (omega (arith, r.0.in_costs, r.1), omega (arith, r.0.in_costs))

pub returns-then-dearer : goal.returns-then-dearer
returns-then-dearer c =
    λ t standing refused_out_lem refused_in_lem end. offer_displaces end c.spare.ensures c.ones.ensures c.args.i c.best_in-displaced.ensures c.if-ones-spare.false c.requires.1 c.if-links-displaced.false (sym c.dearer.ensures ∙ c.if-dearer.true)

pub returns : goal.returns
returns c =
    λ t standing refused_out_lem refused_in_lem end. offer_refused end c.spare.ensures c.ones.ensures c.args.i c.best_in-displaced.ensures c.if-ones-spare.false c.requires.1 c.if-links-displaced.false (sym c.dearer.ensures ∙ c.if-dearer.false)
