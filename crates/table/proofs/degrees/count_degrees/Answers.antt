use mathlib.Core.Path.{◌∙◌, ap}
use mathlib.Core.List.{[]}
use native.Mathlib.Omega.{arith}
use lib.ListN.{get_or}
use lib.Seq.{get_or-set_other}
use Rattle.range.specs.Sum.{sum}
use Rattle.range.proofs.Sums.{count_le}
use Rattle.table.specs.Table.{item, of_slices, touches}
use Rattle.table.proofs.DegreeLaws.{counted_next}
use Rattle.table.proofs.degrees.count_degrees.Goals as goal

pub loop-i-init : goal.loop-i-init
unfolding sum
loop-i-init c = c.requires.4

pub add_one-requires : goal.add_one-requires
add_one-requires c =
    let a = c.args in
    let g = c.requires.3 c.loop-i.i c.loop-i-test.true in
    let n = count_le c.loop-i.i (touches (of_slices 0 0 0 [] a.lows.now a.highs.now []) c.wide-low.result) in
    let k = c.loop-i.invariant c.wide-low.result in
    (omega arith, omega arith)

pub add_one-requires-in-loop-i : goal.add_one-requires-in-loop-i
add_one-requires-in-loop-i c =
    let a = c.args in
    let g = c.requires.3 c.loop-i.i c.loop-i-test.true in
    let n = count_le c.loop-i.i (touches (of_slices 0 0 0 [] a.lows.now a.highs.now []) c.wide-high.result) in
    let k = c.loop-i.invariant c.wide-high.result in
    let o = ap (λ x. get_or x c.wide-high.result 0) c.add_one.ensures ∙ get_or-set_other c.loop-i.counts c.wide-low.result c.wide-high.result _ 0 (λ z. omega arith) in
    (omega arith, omega arith)

pub loop-i-preserved : goal.loop-i-preserved
loop-i-preserved c =
    let a = c.args in
    let g = c.requires.3 c.loop-i.i c.loop-i-test.true in
    λ v. counted_next (item a.lows.now) (item a.highs.now) c.loop-i.i _ _ c.loop-i.counts _ _ c.wide-low.ensures c.wide-high.ensures (omega arith) (omega arith) g.rises c.add_one.ensures c.add_one-in-loop-i.ensures v (c.loop-i.invariant v)
