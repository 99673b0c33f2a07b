-- Invariant: the entries before j are stored.
use mathlib.Core.Path.{◌≡◌}
use Rattle.range.specs.Lists.{stored}
use Rattle.plan_turns_search.specs.Record.{first_mark}
use Rattle.plan_turns_search.proofs.chains.start_marks.Given as goal

abbrev pub invariant-loop-j : goal.invariant-loop-j
invariant-loop-j l = l.marks ≡ stored first_mark l.j l.initial.marks
