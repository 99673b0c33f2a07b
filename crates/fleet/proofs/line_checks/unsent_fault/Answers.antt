use Prim.Native.Nat.{ℕ}
use mathlib.Core.Path.{sym, ◌∙◌}
use mathlib.Core.List.{List, []}
use native.Mathlib.Omega.{arith}
use borrow.Author.Tests.{eq-eqb, ne_eqb}
use Rattle.table.specs.Table.{Table, of_slices}
use Rattle.fleet_theory.proofs.Own.{out_mark_is, in_mark_is}
use Rattle.fleet.proofs.line_checks.unsent_fault.Goals as goal

abbrev table : ℕ → List ℕ → List ℕ → Table
table links lows highs = of_slices 0 0 links [] lows highs []

pub own_mark-requires : goal.own_mark-requires
own_mark-requires c =
    let p = c.requires in
    let is = c.in-Offer.is in
    let w = rw is at p.3 in
    (rw is at p.0, rw is at p.1, rw is at p.2, omega arith)

pub returns-then-own_mark-eq1 : goal.returns-then-own_mark-eq1
returns-then-own_mark-eq1 c links v =
    let a = c.args in
    let is = c.in-Offer.is in
    let b = out_mark_is (table links a.lows.now a.highs.now) a.from a.rec.now _ (rw is at v) in
    rw (is, b ∙ sym c.own_mark.ensures, eq-eqb _ _ c.if-own_mark-eq1.true)

pub own_mark-requires-in-Refusal : goal.own_mark-requires-in-Refusal
own_mark-requires-in-Refusal c =
    let p = c.requires in
    let is = c.in-Refusal.is in
    let w = rw is at p.3 in
    (rw is at p.0, rw is at p.1, rw is at p.2, omega arith)

pub returns-then-own_mark-eq1-2 : goal.returns-then-own_mark-eq1-2
returns-then-own_mark-eq1-2 c links v =
    let a = c.args in
    let is = c.in-Refusal.is in
    let b = in_mark_is (table links a.lows.now a.highs.now) a.from a.rec.now _ (rw is at v) in
    rw (is, b ∙ sym c.own_mark-in-Refusal.ensures, eq-eqb _ _ c.if-own_mark-eq1-2.true)

pub returns-in-Opening : goal.returns-in-Opening
returns-in-Opening c links v = rw c.in-Opening.is

pub returns-else-own_mark-eq1 : goal.returns-else-own_mark-eq1
returns-else-own_mark-eq1 c links v =
    let a = c.args in
    let is = c.in-Offer.is in
    let b = out_mark_is (table links a.lows.now a.highs.now) a.from a.rec.now _ (rw is at v) in
    rw (is, b ∙ sym c.own_mark.ensures, ne_eqb _ _ c.if-own_mark-eq1.false)

pub returns-else-own_mark-eq1-2 : goal.returns-else-own_mark-eq1-2
returns-else-own_mark-eq1-2 c links v =
    let a = c.args in
    let is = c.in-Refusal.is in
    let b = in_mark_is (table links a.lows.now a.highs.now) a.from a.rec.now _ (rw is at v) in
    rw (is, b ∙ sym c.own_mark-in-Refusal.ensures, ne_eqb _ _ c.if-own_mark-eq1-2.false)
