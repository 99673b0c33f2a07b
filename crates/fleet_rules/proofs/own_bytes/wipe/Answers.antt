use Prim.Native.Nat.{ℕ, ◌+◌, ◌≤◌}
use mathlib.Core.Path.{◌≡◌, refl, sym, ◌∙◌, ap}
use mathlib.Core.List.{[]}
use native.Mathlib.Omega.{arith}
use lib.ListN.{set, length-set}
use Rattle.table.specs.Table.{Table, of_slices}
use Rattle.table_links.proofs.Own.{Next, next_own_is}
use Rattle.fleet_theory.specs.Fleet.{wiped_to}
use Rattle.fleet_rules.specs.declared.Side.TheVariants.{Out, In}
use Rattle.fleet_rules.proofs.Own.{byte_below, wiped_skip, wiped_next, wiped_none}
use Rattle.fleet_rules.proofs.own_bytes.wipe.Goals as goal

pub loop-i-init : goal.loop-i-init
loop-i-init c =
    let a = c.args in
    let t : Table = of_slices 0 0 a.links [] a.lows.now a.highs.now [] in
    let first : 0 ≤ a.links = omega arith in
    let n : Next t a.probe 0 first c.next_own-i.result = rw c.next_own-i.ensures (next_own_is t a.probe 0 first) in
    (n.within, n.inside, sym (wiped_none t a.probe a.rec.now) ∙ wiped_skip t a.probe a.rec.now 0 _ first n, refl)

pub bounds-rec-out : goal.bounds-rec-out
bounds-rec-out c =
    let a = c.args in
    let l = c.loop-i in
    let w = c.loop-i-test.true in
    rw c.own_at-out.ensures (byte_below Out (of_slices 0 0 0 [] a.lows.now [] []) a.probe l.i _ (omega (arith, c.requires.3, l.invariant.3)))

pub bounds-rec-into : goal.bounds-rec-into
bounds-rec-into c =
    let a = c.args in
    let l = c.loop-i in
    let w = c.loop-i-test.true in
    simp length-set (rw c.own_at-into.ensures (byte_below In (of_slices 0 0 0 [] a.lows.now [] []) a.probe l.i _ (omega (arith, c.requires.3, l.invariant.3))))

pub loop-i-smaller : goal.loop-i-smaller
loop-i-smaller c =
    let a = c.args in
    let t : Table = of_slices 0 0 a.links [] a.lows.now a.highs.now [] in
    let w = c.loop-i-test.true in
    let next : c.loop-i.i + 1 ≤ a.links = omega (arith, w) in
    let n : Next t a.probe (c.loop-i.i + 1) next c.next_own-i-in-loop-i.result = rw c.next_own-i-in-loop-i.ensures (next_own_is t a.probe (c.loop-i.i + 1) next) in
    let b = n.behind in
    let m = n.within in
    omega arith

pub loop-i-preserved : goal.loop-i-preserved
loop-i-preserved c =
    let a = c.args in
    let r = a.rec.now in
    let t : Table = of_slices 0 0 a.links [] a.lows.now a.highs.now [] in
    let l = c.loop-i in
    let w = c.loop-i-test.true in
    let next : l.i + 1 ≤ a.links = omega (arith, w) in
    let n : Next t a.probe (l.i + 1) next c.next_own-i-in-loop-i.result = rw c.next_own-i-in-loop-i.ensures (next_own_is t a.probe (l.i + 1) next) in
    let stored : set (set l.rec c.own_at-out.result 0) c.own_at-into.result 0 ≡ wiped_to t a.probe (l.i + 1) r = rw (c.own_at-out.ensures, c.own_at-into.ensures, l.invariant.2) (wiped_next t a.probe r l.i (l.invariant.1 w)) in
    (n.within, n.inside, stored ∙ wiped_skip t a.probe r (l.i + 1) _ next n, simp length-set l.invariant.3)

pub returns : goal.returns
returns c =
    let a = c.args in
    let e : c.loop-i.i ≡ a.links = omega (arith, c.loop-i.invariant.0, c.loop-i-test.false) in
    c.loop-i.invariant.2 ∙ ap (λ (k : ℕ). wiped_to (of_slices 0 0 a.links [] a.lows.now a.highs.now []) a.probe k a.rec.now) e
