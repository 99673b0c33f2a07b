use Prim.Native.Nat.{◌+◌, ◌-◌, ◌/◌}
use mathlib.Core.Path.{◌≡◌, ◌∙◌}
use native.Mathlib.Omega.{arith}
use lib.ListN.{length}
use Rattle.plan_turns_search.specs.Record.{of_direction, mark}
use Rattle.plan_turns_search.proofs.Build.{chain_next, chain_done}
use Rattle.plan_turns_search.proofs.Storing.{pushed, marks_stay, directions_stay}
use Rattle.plan_turns_search.proofs.chains.chain_links.Goals as goal

pub loop-n-preserved : goal.loop-n-preserved
loop-n-preserved c =
    let a = c.args in
    let p = c.requires in
    let l = c.loop-n in
    let i = l.invariant in
    let n = l.n in
    let g = c.entry-i.result in
    let m = p.6 g (let b = p.7 (n - 1) (omega arith) in omega arith) in
    let low = c.entry in
    let high = c.entry-in-loop-n in
    let e : n - 1 + 1 ≡ n = omega arith in
    let s = c.push in
    let put = pushed l.marks s.new.marks l.site s.new.site a.k g low.result high.result p.0 s.ensures.0 s.ensures.1 (omega (arith, m.0, m.1)) (omega (arith, m.1)) (omega arith) in (
      λ link_key source key dirs f. chain_next (length a.marks.now / 4) a.links a.lows.now a.highs.now a.order.now link_key source key dirs f (λ j h. (p.6 j h).0) (λ v. mark l.marks v a.k) (λ d. of_direction l.site d a.k) (λ v. mark s.new.marks v a.k) (λ d. of_direction s.new.site d a.k) (n - 1) g low.result high.result (rw e (i.0 link_key source key dirs f)) (omega arith) c.entry-i.ensures low.ensures high.ensures (omega (arith, m.1)) put,
      λ v j h w. marks_stay l.marks s.new.marks l.site s.new.site a.k g low.result high.result p.0 s.ensures.0 s.ensures.1 v j h w ∙ i.1 v j h w,
      λ d j h w. directions_stay l.marks s.new.marks l.site s.new.site a.k g low.result high.result p.0 s.ensures.0 s.ensures.1 d j h w ∙ i.2 d j h w,
    )

pub returns : goal.returns
returns c =
    let a = c.args in
    let i = c.loop-n.invariant in
    let e : c.loop-n.n ≡ 0 = omega arith in
    (λ link_key source key dirs f small. chain_done (length a.marks.now / 4) a.links a.lows.now a.highs.now a.order.now link_key source key dirs f _ _ (rw e at (i.0 link_key source key dirs f)) small, i.1, i.2)
