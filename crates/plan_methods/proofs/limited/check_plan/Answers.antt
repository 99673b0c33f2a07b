use borrow.Author.Rules.{rules}
use mathlib.Core.Path.{sym, ◌∙◌}
use Rattle.table_write.proofs.Answers.{room_short, room_enough}
use Rattle.plan_methods.proofs.limited.check_plan.Goals as goal

pub returns-then-plan-links : goal.returns-then-plan-links
returns-then-plan-links c =
    let a = c.args in
    room_short a.plan a.links _ c.if-plan-links.true

pub returns : goal.returns
returns c =
    let a = c.args in
    c.check_parts.ensures ∙ sym (room_enough a.plan a.links _ c.if-plan-links.false)
