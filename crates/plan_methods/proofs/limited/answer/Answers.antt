use native.Mathlib.Omega.{arith}
use lib.Dec.{eqb}
use Rattle.range.proofs.Sums.{count_le}
use Rattle.table.specs.Table.{item}
use Rattle.plan_methods.proofs.limited.answer.Goals as goal

pub overflow_cast-result : goal.overflow_cast-result
overflow_cast-result c =
    let a = c.args in
    let e = c.kept_count-kept.ensures in
    let n = count_le a.links (λ i. eqb (item a.plan.now i) 1) in
    omega arith

pub returns : goal.returns
returns c = rw (c.kept_count-kept.ensures, c.kept_cost-cost.ensures)
