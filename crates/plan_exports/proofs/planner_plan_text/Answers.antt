use Rattle.packed_answers.proofs.Answers.{prints_packed}
use Rattle.plan_exports.proofs.planner_plan_text.Goals as goal

pub returns : goal.returns
returns c =
    prints_packed _ _ _ _ _ _ c.plan_text.ensures c.packed_output.ensures
