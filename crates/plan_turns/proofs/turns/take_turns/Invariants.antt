-- Invariant: the probes before p are satisfied.
use Rattle.plan_turns_search.specs.Record.{MarksAgree, Over}
use Rattle.plan_turns.proofs.turns.take_turns.Given as goal

abbrev pub invariant-loop-p : goal.invariant-loop-p
invariant-loop-p l = Over l.site l.rec l.p × MarksAgree l.site l.rec l.marks
