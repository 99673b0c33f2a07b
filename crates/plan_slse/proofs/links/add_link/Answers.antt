use mathlib.Core.Path.{◌∙◌, ap}
use Prim.Native.Nat.{◌+◌}
use native.Mathlib.Omega.{arith}
use lib.ListN.{length, get_or, length-set}
use lib.Seq.{get_or-set_other}
use Rattle.range.specs.Lists.{changed_at}
use Rattle.plan_slse.proofs.EndsBelow.{none_below, some_below}
use Rattle.plan_slse.proofs.links.add_link.Goals as goal

pub returns-then-ends_below-eq0 : goal.returns-then-ends_below-eq0
returns-then-ends_below-eq0 c =
    let a = c.args in
    let e = none_below a.counts.now a.needs.now a.low a.high _ c.ends_below.ensures c.if-ends_below-eq0.true in
    (rw e, rw e)

pub add_one-requires-2 : goal.add_one-requires-2
add_one-requires-2 c =
    let a = c.args in
    let q = c.add_one.ensures in
    let l = simp length-set at (ap length q) in
    let o = ap (λ x. get_or x a.high 0) q ∙ get_or-set_other a.counts.now a.low a.high _ 0 (λ z. omega arith) in
    (omega arith, omega arith)

pub returns : goal.returns
returns c =
    let a = c.args in
    let e = some_below a.counts.now a.needs.now a.low a.high _ c.ends_below.ensures c.if-ends_below-eq0.false in
    let q = c.add_one-2.ensures ∙ ap (λ x. changed_at (λ n. n + 1) x a.high) c.add_one.ensures in
    (rw e, rw e q)
