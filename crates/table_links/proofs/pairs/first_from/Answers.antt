use Prim.Native.Nat.{◌-◌, ◌+◌, ◌/◌}
use mathlib.Core.Path.{sym, ◌∙◌}
use native.Mathlib.Omega.{arith}
use Rattle.table_links.proofs.Search.{split_start, split_up, split_down, split_end}
use Rattle.table_links.proofs.pairs.first_from.Goals as goal

pub loop-start-init : goal.loop-start-init
loop-start-init c = let a = c.args in split_start a.links a.lows.now a.highs.now a.low a.high

pub is_earlier-requires : goal.is_earlier-requires
is_earlier-requires c =
    let o = c.requires in
    let w = c.loop-start.invariant.within in
    let t = c.loop-start-test.true in
    (omega (arith, o.in_lows, w, t), omega (arith, o.in_highs, w, t))

pub loop-start-smaller-then-is_earlier : goal.loop-start-smaller-then-is_earlier
loop-start-smaller-then-is_earlier c = let t = c.loop-start-test.true in omega arith

pub loop-start-preserved-then-is_earlier : goal.loop-start-preserved-then-is_earlier
loop-start-preserved-then-is_earlier c =
    let a = c.args in
    let l = c.loop-start in
    let t = c.loop-start-test.true in
    split_up a.links a.lows.now a.highs.now c.requires a.low a.high l.start l.end l.invariant (l.start + (l.end - l.start) / 2) (omega arith) (sym c.is_earlier.ensures ∙ c.if-is_earlier.true)

pub loop-start-smaller : goal.loop-start-smaller
loop-start-smaller c = let t = c.loop-start-test.true in omega arith

pub loop-start-preserved : goal.loop-start-preserved
loop-start-preserved c =
    let a = c.args in
    let l = c.loop-start in
    let t = c.loop-start-test.true in
    split_down a.links a.lows.now a.highs.now c.requires a.low a.high l.start l.end l.invariant (l.start + (l.end - l.start) / 2) (omega arith) (omega arith) (sym c.is_earlier.ensures ∙ c.if-is_earlier.false)

pub returns : goal.returns
returns c =
    let a = c.args in
    let l = c.loop-start in
    split_end a.links a.lows.now a.highs.now c.requires a.low a.high l.start l.end l.invariant c.loop-start-test.false
