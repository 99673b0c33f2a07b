use borrow.Author.Tests.{lt-ltb, le-ltb, eq-eqb, ne_eqb}
use native.Mathlib.Omega.{arith}
use lib.ListN.{get_or}
use Rattle.table_links.proofs.order.dearer.Goals as goal

pub returns-then-costs-j : goal.returns-then-costs-j
returns-then-costs-j c = rw (lt-ltb _ _ c.if-costs-j.true)

pub returns-then-costs-i : goal.returns-then-costs-i
returns-then-costs-i c =
    let a = c.args in
    let l = c.if-costs-i.true in
    rw (le-ltb _ _ c.if-costs-j.false, ne_eqb (get_or a.costs.now a.i 0) (get_or a.costs.now a.j 0) (λ e. omega arith))

pub returns : goal.returns
returns c =
    let a = c.args in
    let l = c.if-costs-i.false in
    let m = c.if-costs-j.false in
    rw (le-ltb _ _ m, eq-eqb (get_or a.costs.now a.i 0) (get_or a.costs.now a.j 0) (omega arith))
