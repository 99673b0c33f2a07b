-- Invariant: the bytes before i are the plan's.
use mathlib.Core.Path.{◌≡◌}
use Rattle.range.specs.Lists.{stored}
use Rattle.plan_turns_search.specs.Record.{kept_byte}
use Rattle.plan_turns.proofs.method.write_plan.Given as goal

abbrev pub invariant-loop-i : goal.invariant-loop-i
invariant-loop-i l = l.plan ≡ stored (kept_byte l.rec) l.i l.initial.plan
