use mathlib.Core.Bool.{and-false, or-false}
use lib.Dec.{eqb}
use borrow.Author.Tests.{eq-eqb, ne_eqb}
use Rattle.fleet_finishing.proofs.finishing.may_alter.Goals as goal

pub returns-then-into-eq2 : goal.returns-then-into-eq2
returns-then-into-eq2 c =
    let a = c.args in
    rw (c.if-into-eq2.true, and-false (eqb a.out 1))

pub returns-then-out-ne1 : goal.returns-then-out-ne1
returns-then-out-ne1 c = rw (ne_eqb _ _ c.if-into-eq2.false, ne_eqb _ _ c.if-out-ne1.true)

pub returns : goal.returns
returns c =
    let a = c.args in
    rw (ne_eqb _ _ c.if-into-eq2.false, eq-eqb _ _ c.if-out-ne1.false, or-false (eqb a.into 0))
