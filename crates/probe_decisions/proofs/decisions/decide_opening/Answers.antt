use borrow.Author.Rules.{rules}
use native.Mathlib.Omega.{arith}
use Prim.Native.Nat.{◌≤◌}
use Rattle.probe_decisions.proofs.DecisionLaws.{opens_enough, opens_none, opens_one}
use Rattle.probe_decisions.proofs.decisions.decide_opening.Goals as goal

pub spare-requires : goal.spare-requires
spare-requires c =
    let r = c.requires in
    omega (arith, r.in_own)

pub ones-requires : goal.ones-requires
ones-requires c =
    let r = c.requires in
    omega (arith, r.in_standing, r.few)

pub returns-then-spare-ones : goal.returns-then-spare-ones
returns-then-spare-ones c =
    let enough : c.spare.result ≤ c.ones.result = omega (arith, c.if-spare-ones.true) in
    λ t held refused_in_lem end. opens_enough end c.spare.ensures c.ones.ensures enough

pub remove_tried-requires : goal.remove_tried-requires
remove_tried-requires c =
    let r = c.requires in
    (omega (arith, r.in_standing, r.in_own, r.few), omega (arith, r.in_standing, r.in_refused_out), λ k. (c.slice_known-1.given k).fits)

pub best_in-i-requires : goal.best_in-i-requires
best_in-i-requires c =
    let r = c.requires in
    let k = c.remove_tried.auto.own in
    (r.in_costs, omega (arith, r.in_own, r.few), omega (arith, r.in_own))

pub returns-then-links-i : goal.returns-then-links-i
returns-then-links-i c =
    λ t held refused_in_lem end. opens_none end c.spare.ensures c.ones.ensures c.remove_tried.ensures c.best_in-i.ensures c.if-spare-ones.false c.if-links-i.true

pub returns : goal.returns
returns c =
    λ t held refused_in_lem end. opens_one end c.spare.ensures c.ones.ensures c.remove_tried.ensures c.best_in-i.ensures c.if-spare-ones.false c.if-links-i.false
