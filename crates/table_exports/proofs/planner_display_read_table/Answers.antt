use borrow.Author.Rules.{rules}
use mathlib.Core.Bool.{false}
use Rattle.table_read.specs.Reading.{lent_of}
use Rattle.table_exports.proofs.Answers.{reads_packed}
use Rattle.table_exports.proofs.planner_display_read_table.Goals as goal

pub returns : goal.returns
returns c =
    let a = c.args in
    reads_packed 16 40 false a.text.now _ _ (lent_of a.needs.now a.lows.now a.highs.now a.costs.now) _ c.read_table.ensures c.packed_reading.ensures
