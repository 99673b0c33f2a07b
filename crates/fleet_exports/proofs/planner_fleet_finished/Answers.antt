use mathlib.Core.Path.{◌∙◌, ap}
use Rattle.packed_answers.specs.Packed.{packed_value}
use Rattle.fleet_exports.proofs.planner_fleet_finished.Goals as goal

pub returns : goal.returns
returns c = c.packed_finishing.ensures ∙ ap packed_value c.finished.ensures
