use mathlib.Core.Path.{◌∙◌, ap}
use native.Mathlib.Omega.{arith}
use lib.ListN.{get_or}
use lib.Seq.{get_or-set_other}
use Rattle.range.proofs.Sums.{count_le}
use Rattle.table.specs.Table.{item}
use Rattle.fleet_state.specs.Within.{end_with}
use Rattle.fleet_state.proofs.counts.count_bytes.Goals as goal

pub add_if-requires-in-loop-i : goal.add_if-requires-in-loop-i
add_if-requires-in-loop-i c =
    let l = c.loop-i in
    let a = c.args in
    let high = c.wide-high.result in
    let g = c.requires.6 l.i c.loop-i-test.true in
    let n = count_le l.i (end_with (item a.lows.now) (item a.highs.now) a.rec.now a.k a.m a.value high) in
    let q = l.invariant high in
    let o = ap (λ x. get_or x high 0) c.add_if.ensures ∙ get_or-set_other l.counts c.wide-low.result high _ 0 (λ z. omega arith) in
    (omega arith, omega arith)
