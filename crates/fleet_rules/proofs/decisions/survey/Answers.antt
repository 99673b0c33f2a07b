use Prim.Native.Nat.{ℕ, ◌+◌, ◌≤◌}
use mathlib.Core.Path.{sym, ◌∙◌, ap}
use mathlib.Core.Bool.{Bool, cond, ◌||◌}
use mathlib.Core.List.{List, []}
use native.Mathlib.Omega.{arith}
use lib.Dec.{leb, eqb}
use Rattle.table.specs.Table.{Table, item, of_slices, dearer_by_place}
use Rattle.table_links.proofs.Own.{Next, next_own_is}
use Rattle.fleet_theory.specs.Fleet.{own}
use Rattle.fleet_theory.proofs.Own.{own_same}
use Rattle.fleet_rules.specs.Sides.{wanted, cheapest, side_byte, side_better}
use Rattle.fleet_rules.proofs.Sides.{side_is, side_before, side_behind}
use Rattle.fleet_rules.proofs.Passing.{one_most, passing_start, passing_next, passing_own, passing_all}
use Rattle.fleet_rules.proofs.decisions.survey.Goals as goal

pub next_own-i-requires : goal.next_own-i-requires
next_own-i-requires c =
    let p = c.requires in
    (p.0.in_lows, p.0.in_highs, omega arith)

pub loop-i-init : goal.loop-i-init
loop-i-init c =
    let a = c.args in
    let t : Table = of_slices 0 0 a.links [] a.lows.now a.highs.now a.costs.now in
    let first : 0 ≤ a.links = omega arith in
    let n : Next t a.probe 0 first c.next_own-i.result = rw c.next_own-i.ensures (next_own_is t a.probe 0 first) in
    (n.within, n.inside, passing_next t a.probe (side_byte a.side (own t a.probe a.rec.now)) (side_better a.side t) (wanted a.side) 0 _ _ first n (passing_start t a.probe (side_byte a.side (own t a.probe a.rec.now)) (side_better a.side t) (wanted a.side)))

pub own_byte-byte-requires : goal.own_byte-byte-requires
own_byte-byte-requires c =
    let p = c.requires in
    let w = c.loop-i-test.true in
    let z = p.0.few in
    (omega (arith, p.0.in_lows), omega (arith, p.0.in_highs), omega arith, omega (arith, p.1))

pub overflow_add-s : goal.overflow_add-s
overflow_add-s c =
    let g = c.loop-i.invariant.2.few_ones in
    let o = c.one_if.ensures in
    let m = one_most (eqb c.own_byte-byte.result 1) in
    omega (arith, c.loop-i-test.true, c.ranges.links)

pub next_own-i-requires-in-loop-i : goal.next_own-i-requires-in-loop-i
next_own-i-requires-in-loop-i c =
    let p = c.requires in
    (p.0.in_lows, p.0.in_highs, omega (arith, c.loop-i-test.true))

pub loop-i-smaller : goal.loop-i-smaller
loop-i-smaller c =
    let a = c.args in
    let t : Table = of_slices 0 0 a.links [] a.lows.now a.highs.now a.costs.now in
    let w = c.loop-i-test.true in
    let next : c.loop-i.i + 1 ≤ a.links = omega (arith, w) in
    let n : Next t a.probe (c.loop-i.i + 1) next c.next_own-i-in-loop-i.result = rw c.next_own-i-in-loop-i.ensures (next_own_is t a.probe (c.loop-i.i + 1) next) in
    let b = n.behind in
    let m = n.within in
    omega arith

pub loop-i-preserved : goal.loop-i-preserved
loop-i-preserved c =
    let a = c.args in
    let p = c.requires in
    let t : Table = of_slices 0 0 a.links [] a.lows.now a.highs.now a.costs.now in
    let l = c.loop-i in
    let w = c.loop-i-test.true in
    let k = l.i in
    let b = l.s.best in
    let next : k + 1 ≤ a.links = omega (arith, w) in
    let n : Next t a.probe (k + 1) next c.next_own-i-in-loop-i.result = rw c.next_own-i-in-loop-i.ensures (next_own_is t a.probe (k + 1) next) in
    let test : Bool = (leb a.links b || cond (cheapest a.side) (dearer_by_place (item a.costs.now) b k) (dearer_by_place (item a.costs.now) k b)) in
    let same = own_same 0 0 a.links [] a.lows.now a.highs.now a.costs.now a.probe a.rec.now in
    let with-own = passing_own t a.probe (side_byte a.side (own t a.probe a.rec.now)) (side_better a.side t) (wanted a.side) k l.s w (l.invariant.1 w) c.own_byte-byte.result (ap (λ (e : List ℕ). side_byte a.side e k) (sym same) ∙ side_is a.side (of_slices 0 0 a.links [] a.lows.now a.highs.now []) a.probe a.rec.now k w ∙ sym c.own_byte-byte.ensures) test (side_before t p.0.order a.side k b w) (side_behind t p.0.order a.side k b w) l.invariant.2 _ _ (ap (λ (z : ℕ). l.s.count + z) c.one_if.ensures) c.best_with.ensures in
    (n.within, n.inside, passing_next t a.probe (side_byte a.side (own t a.probe a.rec.now)) (side_better a.side t) (wanted a.side) (k + 1) _ _ next n with-own)

pub returns : goal.returns
returns c =
    let a = c.args in
    let t : Table = of_slices 0 0 a.links [] a.lows.now a.highs.now a.costs.now in
    let l = c.loop-i in
    passing_all t a.probe (side_byte a.side (own t a.probe a.rec.now)) (side_better a.side t) (wanted a.side) l.i l.s (omega (arith, l.invariant.0, c.loop-i-test.false)) l.invariant.2
