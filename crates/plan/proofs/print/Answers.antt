use Rattle.plan.proofs.Writing.{never_refused}
use Rattle.plan.proofs.print.Goals as goal

pub returns-in-Refused : goal.returns-in-Refused
returns-in-Refused c = absurd (never_refused c.args.text.now _ c.args.out.now _ c.requires c.plan_text.ensures _ c.in-Refused.is)
