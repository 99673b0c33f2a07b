use borrow.Author.Rules.{rules}
use mathlib.Core.Path.{◌∙◌, ap}
use Rattle.packed_answers.specs.Packed.{packed_value}
use Rattle.probe_exports.proofs.planner_probe_rests.Goals as goal

pub returns : goal.returns
returns c = c.packed_resting.ensures ∙ ap packed_value c.rests.ensures
