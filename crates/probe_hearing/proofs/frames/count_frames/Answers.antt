use mathlib.Core.Path.{ap}
use mathlib.Core.List.{[]}
use native.Mathlib.Omega.{arith}
use lib.ListN.{length}
use Rattle.lines.specs.Line.{lines_from}
use Rattle.lines.specs.declared.Found.{Found}
use Rattle.lines.proofs.Split.{next_after}
use Rattle.probe_hearing.proofs.Laws.{none_left, fewer_left, many_counted, few_counted}
use Rattle.probe_hearing.proofs.frames.count_frames.Goals as goal

pub returns-then-count-eq64 : goal.returns-then-count-eq64
returns-then-count-eq64 c =
    let l = c.loop-at in
    let bag = c.args.bag.now in
    let fewer = fewer_left bag l.at c.loop-at-test.true in
    many_counted l.count (length (lines_from [] bag)) c.if-count-eq64.true (omega (arith, fewer, l.invariant.1, c.if-count-eq64.true))

pub loop-at-smaller : goal.loop-at-smaller
loop-at-smaller c =
    let l = c.loop-at in
    let bag = c.args.bag.now in
    let after = next_after bag l.at c.loop-at-test.true in
    let e = ap (λ (f : Found). f.next) c.find_line-found.ensures in
    omega (arith, after.0, after.1, e)

pub loop-at-preserved : goal.loop-at-preserved
loop-at-preserved c =
    let l = c.loop-at in
    let bag = c.args.bag.now in
    let test = c.loop-at-test.true in
    let after = next_after bag l.at test in
    let fewer = fewer_left bag l.at test in
    let e = ap (λ (f : Found). f.next) c.find_line-found.ensures in
    rw e (after.1, omega (arith, fewer, l.invariant.1), omega (arith, l.invariant.2, c.if-count-eq64.false))

pub returns : goal.returns
returns c =
    let l = c.loop-at in
    let bag = c.args.bag.now in
    let none = ap length (none_left bag l.at c.loop-at-test.false) in
    few_counted l.count (length (lines_from [] bag)) (omega (arith, none, l.invariant.1)) l.invariant.2
