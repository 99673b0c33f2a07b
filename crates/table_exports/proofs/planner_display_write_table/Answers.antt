use borrow.Author.Rules.{rules}
use native.Mathlib.Omega.{arith}
use Rattle.table.specs.Slices.{slices_of}
use Rattle.table_exports.proofs.Answers.{writes_packed, length_is}
use Rattle.table_exports.proofs.planner_display_write_table.Goals as goal

pub packed_writing-requires : goal.packed_writing-requires
packed_writing-requires c =
    λ n is.
    let a = c.args in
    let x = slices_of a.number a.probes a.links a.needs.now a.lows.now a.highs.now a.costs.now in
    let e = length_is 16 40 x _ n a.out.now _ c.write_table.ensures is in
    omega (arith, c.ranges.probes, c.ranges.links)

pub returns : goal.returns
returns c =
    let a = c.args in
    let x = slices_of a.number a.probes a.links a.needs.now a.lows.now a.highs.now a.costs.now in
    writes_packed 16 40 x _ _ a.out.now _ c.write_table.ensures c.packed_writing.ensures
