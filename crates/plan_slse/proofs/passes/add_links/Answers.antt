use Prim.Native.Nat.{◌+◌, ◌-◌, ◌≤◌, ◌<◌}
use mathlib.Core.Path.{◌≡◌}
use native.Mathlib.Omega.{arith}
use lib.ListN.{length}
use Rattle.table.specs.Table.{item, of_slices, dearer}
use Rattle.table.specs.Legal.{Ends}
use Rattle.plan_theory.specs.Pass.{place}
use Rattle.plan_slse.specs.Steps.{either_below}
use Rattle.plan_slse.proofs.Turns.{up_start, up_step, up_end, up_place, one_more_most, whole}
use Rattle.plan_slse.proofs.passes.add_links.Goals as goal

pub loop-k-init : goal.loop-k-init
loop-k-init c =
    let a = c.args in
    let z : a.table.links - a.table.links ≡ 0 = omega arith in
    (λ probes costs wide is. rw z (up_start probes a.table.links a.table.needs.now a.table.lows.now a.table.highs.now costs a.plan.now a.counts.now c.requires.1 c.requires.2 (λ v l. c.requires.3 v (omega (arith, wide, l)))), λ v l. (let e = c.requires.3 v l in omega arith))

pub loop-k-preserved : goal.loop-k-preserved
loop-k-preserved c =
    let a = c.args in
    let fits = c.requires.0 in
    let link = c.wide-i.result in
    let e = c.wide-i.ensures in
    let st = c.add_link.ensures in
    let some : 0 < c.loop-k.k = c.loop-k-test.true in
    let most : c.loop-k.k ≤ a.table.links = omega arith in
    let below = fits.below (c.loop-k.k - 1) (omega arith) in
    let i : link < a.table.links = omega arith in
    let low = c.wide.ensures in
    let high = c.wide-in-loop-k.ensures in
    let plan_after = rw (low, high) at st.0 in
    let counts-after = rw (low, high) at st.1 in
    let n : a.table.links - c.loop-k.k + 1 ≡ a.table.links - (c.loop-k.k - 1) = omega arith in
    let same : length c.loop-k.counts ≡ length a.counts.now = omega arith in
    let ends : Ends (length c.loop-k.counts) (item a.table.lows.now link) (item a.table.highs.now link) = rw same (fits.counted link i) in (
      λ probes costs wide is.
          let t = of_slices 0 probes a.table.links a.table.needs.now a.table.lows.now a.table.highs.now costs in
          let w = whole probes a.table.links a.table.needs.now a.table.lows.now a.table.highs.now costs is.0 in
          let long : probes ≤ length c.loop-k.counts = omega (arith, wide, same) in
          let p : place a.table.links (dearer t) link ≡ c.loop-k.k - 1 = rw e (is.1 (c.loop-k.k - 1) (omega arith)).1 in
          let at = up_place probes a.table.links a.table.needs.now a.table.lows.now a.table.highs.now costs is.0 c.loop-k.k link some most i p in
          rw (← n) (up_step probes a.table.links a.table.needs.now a.table.lows.now a.table.highs.now costs w.order (a.table.links - c.loop-k.k) link a.plan.now c.loop-k.plan c.loop-k.counts i (w.ends link i) long c.requires.1 _ _ (c.loop-k.invariant.0 probes costs wide is) at plan_after counts-after),
      λ v b. rw (← n) (one_more_most (either_below c.loop-k.counts a.table.needs.now (item a.table.lows.now link) (item a.table.highs.now link)) c.loop-k.counts _ (item a.table.lows.now link) (item a.table.highs.now link) v (a.table.links - c.loop-k.k) ends counts-after (c.loop-k.invariant.1 v b)),
    )

pub returns : goal.returns
returns c =
    let a = c.args in
    let l = c.loop-k in
    let z : a.table.links - l.k ≡ a.table.links = omega arith in
    λ probes costs wide is. up_end probes a.table.links a.table.needs.now a.table.lows.now a.table.highs.now costs a.plan.now l.plan l.counts (rw z at (l.invariant.0 probes costs wide is))
