use native.Mathlib.Omega.{arith}
use borrow.Author.Tests.{lt-ltb}
use Rattle.table.specs.Table.{item}
use Rattle.fleet_finishing.proofs.Finished.{some_counted}
use Rattle.fleet_finishing.proofs.finishing.none_opens.Invariants.{may}
use Rattle.fleet_finishing.proofs.finishing.none_opens.Goals as goal

pub returns-then-untried-v-ne0 : goal.returns-then-untried-v-ne0
returns-then-untried-v-ne0 c =
    let a = c.args in
    some_counted a.probes (may a.needs.now a.degrees.now a.standing.now a.untried.now) c.loop-v.v c.loop-v-test.true (rw (← c.spare_at-spare.ensures, lt-ltb _ _ c.if-standing-v.true, lt-ltb 0 (item a.untried.now c.loop-v.v) (omega arith)))
