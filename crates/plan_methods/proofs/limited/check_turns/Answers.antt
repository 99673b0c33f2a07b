use Prim.Native.Nat.{◌*◌}
use mathlib.Core.Path.{sym, ◌∙◌}
use Rattle.table_write.proofs.Answers.{room_short, room_enough}
use Rattle.plan_methods.proofs.limited.check_turns.Goals as goal

pub returns-then-work-links : goal.returns-then-work-links
returns-then-work-links c =
    let a = c.args in
    room_short a.work (4 * a.links) _ c.if-work-links.true

pub returns : goal.returns
returns c =
    let a = c.args in
    c.check_plan.ensures ∙ sym (room_enough a.work (4 * a.links) _ c.if-work-links.false)
