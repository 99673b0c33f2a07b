use mathlib.Core.Path.{sym, ◌∙◌}
use native.Mathlib.Omega.{arith}
use borrow.Author.Tests.{eq-eqb, ne_eqb}
use Rattle.table.specs.Table.{Table}
use Rattle.fleet_theory.proofs.Own.{out_is, in_is}
use Rattle.table.specs.Slices.{as_slices, table_of}
use Rattle.fleet_rules.proofs.decisions.decide.Goals as goal

pub own_byte-requires : goal.own_byte-requires
own_byte-requires c =
    let a = c.args in
    let p = c.requires in
    let w = rw c.in-Offer.is at p.2 in
    let z = p.0.few in
    (omega (arith, p.0.in_lows), omega (arith, p.0.in_highs), omega arith, omega (arith, p.1))

pub returns-then-own_byte-ne0 : goal.returns-then-own_byte-ne0
returns-then-own_byte-ne0 c =
    let a = c.args in
    let t : Table = (table_of (as_slices a.table)) in
    let w = rw c.in-Offer.is at c.requires.2 in
    rw (c.in-Offer.is, in_is t a.probe a.rec.now _ w ∙ sym c.own_byte.ensures, ne_eqb _ _ c.if-own_byte-ne0.true)

pub decide_offer-requires : goal.decide_offer-requires
decide_offer-requires c =
    let p = c.requires in
    (p.0, p.1, rw c.in-Offer.is at p.2, p.3, p.4)

pub own_byte-requires-in-Refusal : goal.own_byte-requires-in-Refusal
own_byte-requires-in-Refusal c =
    let a = c.args in
    let p = c.requires in
    let w = rw c.in-Refusal.is at p.2 in
    let z = p.0.few in
    (omega (arith, p.0.in_lows), omega (arith, p.0.in_highs), omega arith, omega (arith, p.1))

pub returns-then-own_byte-eq2 : goal.returns-then-own_byte-eq2
returns-then-own_byte-eq2 c =
    let a = c.args in
    let t : Table = (table_of (as_slices a.table)) in
    let w = rw c.in-Refusal.is at c.requires.2 in
    rw (c.in-Refusal.is, out_is t a.probe a.rec.now _ w ∙ sym c.own_byte-in-Refusal.ensures, eq-eqb _ _ c.if-own_byte-eq2.true)

pub returns-in-Opening : goal.returns-in-Opening
returns-in-Opening c = rw c.in-Opening.is c.decide_opening.ensures

pub returns-else-own_byte-ne0 : goal.returns-else-own_byte-ne0
returns-else-own_byte-ne0 c =
    let a = c.args in
    let t : Table = (table_of (as_slices a.table)) in
    let w = rw c.in-Offer.is at c.requires.2 in
    rw (c.in-Offer.is, in_is t a.probe a.rec.now _ w ∙ sym c.own_byte.ensures, eq-eqb _ _ c.if-own_byte-ne0.false) c.decide_offer.ensures

pub returns-else-own_byte-eq2 : goal.returns-else-own_byte-eq2
returns-else-own_byte-eq2 c =
    let a = c.args in
    let t : Table = (table_of (as_slices a.table)) in
    let w = rw c.in-Refusal.is at c.requires.2 in
    rw (c.in-Refusal.is, out_is t a.probe a.rec.now _ w ∙ sym c.own_byte-in-Refusal.ensures, ne_eqb _ _ c.if-own_byte-eq2.false)
