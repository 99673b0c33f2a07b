use Prim.Native.Nat.{◌-◌, ◌<◌}
use mathlib.Core.Path.{◌∙◌, ap}
use native.Mathlib.Omega.{arith}
use lib.Dec.{ltb}
use lib.ListN.{length, get_or, length-set}
use lib.Seq.{get_or-set_other}
use borrow.Author.Tests.{eq-eqb, ne_eqb, ltb-true}
use Rattle.range.proofs.Bools.{and_left, and_right}
use Rattle.table.specs.Table.{item}
use Rattle.range.specs.Lists.{changed_at}
use Rattle.plan_slse.proofs.EndsBelow.{two_over, not_two_over}
use Rattle.plan_slse.proofs.links.remove_link.Goals as goal

pub returns-then-plan-i-ne1 : goal.returns-then-plan-i-ne1
returns-then-plan-i-ne1 c =
    let e = ne_eqb _ _ c.if-plan-i-ne1.true in
    (rw e, rw e)

pub returns-then-ends_below-ne2 : goal.returns-then-ends_below-ne2
returns-then-ends_below-ne2 c =
    let e = eq-eqb _ _ c.if-plan-i-ne1.false in
    let a = c.args in
    let o = not_two_over a.counts.now a.needs.now a.low a.high _ c.ends_below.ensures c.if-ends_below-ne2.true in
    (rw (e, o), rw (e, o))

pub take_one-requires : goal.take_one-requires
take_one-requires c =
    let a = c.args in
    let o = two_over a.counts.now a.needs.now a.low a.high _ c.ends_below.ensures c.if-ends_below-ne2.false in
    let low = ltb (item a.needs.now a.low) (item a.counts.now a.low) in
    let high = ltb (item a.needs.now a.high) (item a.counts.now a.high) in
    let k : item a.needs.now a.low < item a.counts.now a.low = ltb-true _ _ (and_left low high o) in
    (omega arith, omega arith)

pub take_one-requires-2 : goal.take_one-requires-2
take_one-requires-2 c =
    let a = c.args in
    let q = c.take_one.ensures in
    let l = simp length-set at (ap length q) in
    let z = ap (λ x. get_or x a.high 0) q ∙ get_or-set_other a.counts.now a.low a.high _ 0 (λ z. omega arith) in
    let o = two_over a.counts.now a.needs.now a.low a.high _ c.ends_below.ensures c.if-ends_below-ne2.false in
    let low = ltb (item a.needs.now a.low) (item a.counts.now a.low) in
    let high = ltb (item a.needs.now a.high) (item a.counts.now a.high) in
    let k : item a.needs.now a.high < item a.counts.now a.high = ltb-true _ _ (and_right low high o) in
    (omega arith, omega arith)

pub returns : goal.returns
returns c =
    let e = eq-eqb _ _ c.if-plan-i-ne1.false in
    let a = c.args in
    let o = two_over a.counts.now a.needs.now a.low a.high _ c.ends_below.ensures c.if-ends_below-ne2.false in
    let q = c.take_one-2.ensures ∙ ap (λ x. changed_at (λ n. n - 1) x a.high) c.take_one.ensures in
    (rw (e, o), rw (e, o) q)
