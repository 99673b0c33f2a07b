use borrow.Author.Rules.{rules}
use Prim.Native.Nat.{ℕ, ◌+◌, ◌*◌, ◌-◌, ◌≤◌, ◌<◌}
use mathlib.Core.Path.{◌≡◌, sym, ◌∙◌}
use mathlib.Core.Logic.{⊎_elim}
use mathlib.Core.Bool.{Bool, true, cond}
use mathlib.Core.List.{List}
use native.Mathlib.Omega.{arith}
use lib.ListN.{length}
use borrow.Author.Tests.{lt-ltb, le-ltb}
use Rattle.range.specs.Choice.{best}
use Rattle.range.proofs.Choice.{Found, found_start}
use Rattle.bit_maps.specs.BitMap.{bit, next_bit}
use Rattle.table.specs.Table.{item, dearer_by_place}
use Rattle.probe_decisions.proofs.SearchLaws.{next_is, lesser, found_to, found_before, found_behind}
use Rattle.probe_decisions.proofs.search.best_in.Invariants.{order}
use Rattle.probe_decisions.proofs.search.best_in.Goals as goal
use Rattle.probe_decisions.proofs.search.best_in.Goals.{else-goes_before, then-goes_before}

pub loop-i-init : goal.loop-i-init
loop-i-init c =
    let a = c.args in
    let n = next_is a.map.now 0 (omega arith) in
    rw c.next-i.ensures (
      n.within,
      n.here,
      found_to (order a.cheapest a.costs.now) (bit a.map.now) a.links 0 (next_bit a.map.now 0) a.links (omega arith) (omega arith) n.between
          (found_start (order a.cheapest a.costs.now) (bit a.map.now) a.links),
    )

pub next-i-requires-in-loop-i : goal.next-i-requires-in-loop-i
next-i-requires-in-loop-i c =
    let p = c.requires in
    (p.2, omega (arith, p.1))

pub loop-i-smaller : goal.loop-i-smaller
loop-i-smaller c =
    let a = c.args in
    let l = c.loop-i in
    let p = c.requires.1 in
    let n = next_is a.map.now (l.i + 1) (omega arith) in
    let s = n.after in
    let e = c.next-i-in-loop-i.ensures in
    omega arith

pub returns : goal.returns
returns c =
    let l = c.loop-i in
    let a = c.args in
    (rw (le-ltb l.i a.links c.loop-i-test.false) at l.invariant.2).is

pub loop-i-preserved : goal.loop-i-preserved
loop-i-preserved c =
    let a = c.args in
    let l = c.loop-i in
    let p = c.requires.1 in
    let o : ℕ → ℕ → Bool = order a.cheapest a.costs.now in
    let n = next_is a.map.now (l.i + 1) (omega arith) in
    let here : bit a.map.now l.i ≡ true = l.invariant.1 (omega arith) in
    let asked = c.goes_before.ensures in
    let before : Found o (bit a.map.now) a.links l.i l.best = rw (lt-ltb l.i a.links c.loop-i-test.true) at l.invariant.2 in
    rw c.next-i-in-loop-i.ensures (
      n.within,
      n.here,
      found_to o (bit a.map.now) a.links (l.i + 1) (next_bit a.map.now (l.i + 1)) _ (omega arith) (omega (arith, n.after)) n.between
          (elim c.if-goes_before.branch [ then-goes_before w ↦ rw w.best-is (found_before o (bit a.map.now) a.links l.i l.best (search rules) here (sym asked ∙ w.if-goes_before.true) before) | else-goes_before w ↦ rw w.best-is (found_behind o (bit a.map.now) a.links l.i l.best here (sym asked ∙ w.if-goes_before.false) before) ]),
    )
