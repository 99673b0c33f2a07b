use native.Mathlib.Omega.{arith}
use lib.ListN.{get_or-eq_default}
use Rattle.table_links.proofs.spares.spare_of.Goals as goal

pub returns-then-needs-probe : goal.returns-then-needs-probe
returns-then-needs-probe c = let z = get_or-eq_default c.args.needs.now 0 c.if-needs-probe.true in omega arith

pub returns-then-degree-need : goal.returns-then-degree-need
returns-then-degree-need c = let e = c.wide-need.ensures in omega (arith, c.if-degree-need.true)

pub returns : goal.returns
returns c = let e = c.wide-need.ensures in omega (arith, c.if-degree-need.false)
