use borrow.Author.Rules.{rules}
use mathlib.Core.Path.{◌∙◌, ap}
use Rattle.table_exports.specs.Packed.{packed_checking}
use Rattle.table_exports.proofs.Answers.{checking_packed}
use Rattle.table_exports.proofs.planner_display_check_table.Goals as goal

pub returns : goal.returns
returns c = c.packed_checking.ensures ∙ ap packed_checking c.check_table.ensures ∙ checking_packed _
