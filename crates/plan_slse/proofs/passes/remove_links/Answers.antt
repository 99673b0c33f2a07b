use Prim.Native.Nat.{◌≤◌, ◌<◌}
use mathlib.Core.Path.{◌≡◌}
use native.Mathlib.Omega.{arith}
use lib.ListN.{length}
use Rattle.table.specs.Table.{of_slices, dearer}
use Rattle.plan_theory.specs.Pass.{place}
use Rattle.plan_slse.proofs.Turns.{down_start, down_step, down_end, whole}
use Rattle.plan_slse.proofs.passes.remove_links.Goals as goal

pub loop-k-init : goal.loop-k-init
loop-k-init c =
    let a = c.args in
    λ probes costs wide is own all. down_start probes a.table.links a.table.needs.now a.table.lows.now a.table.highs.now costs a.plan.now a.counts.now c.requires.1 own all

pub loop-k-preserved : goal.loop-k-preserved
loop-k-preserved c =
    let a = c.args in
    let fits = c.requires.0 in
    let link = c.wide-i.result in
    let e = c.wide-i.ensures in
    let st = c.remove_link.ensures in
    let some : c.loop-k.k < a.table.links = c.loop-k-test.true in
    let below = fits.below c.loop-k.k (omega arith) in
    let i : link < a.table.links = omega arith in
    let low = c.wide.ensures in
    let high = c.wide-in-loop-k.ensures in
    let plan_after = rw (low, high) at st.0 in
    let counts-after = rw (low, high) at st.1 in
    λ probes costs wide is own all.
    let t = of_slices 0 probes a.table.links a.table.needs.now a.table.lows.now a.table.highs.now costs in
    let w = whole probes a.table.links a.table.needs.now a.table.lows.now a.table.highs.now costs is.0 in
    let long : probes ≤ length c.loop-k.counts = omega (arith, wide) in
    let p : place a.table.links (dearer t) link ≡ c.loop-k.k = rw e (is.1 c.loop-k.k some).1 in
    down_step probes a.table.links a.table.needs.now a.table.lows.now a.table.highs.now costs w.order c.loop-k.k link a.plan.now c.loop-k.plan c.loop-k.counts i (w.ends link i) long c.requires.1 _ _ (c.loop-k.invariant probes costs wide is own all) p plan_after counts-after

pub returns : goal.returns
returns c =
    let a = c.args in
    let l = c.loop-k in
    let z : l.k ≡ a.table.links = omega arith in
    λ probes costs wide is own all. down_end probes a.table.links a.table.needs.now a.table.lows.now a.table.highs.now costs a.plan.now l.plan l.counts (rw z at (l.invariant probes costs wide is own all))
