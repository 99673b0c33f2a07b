-- Invariant: the words before w are cleared, the others are as they were.
use Rattle.probe_decisions.proofs.SearchLaws.{Cleared}
use Rattle.probe_decisions.proofs.search.remove_tried.Given as goal

abbrev pub invariant-loop-w : goal.invariant-loop-w
invariant-loop-w l = Cleared l.initial.own l.one l.two l.own l.w
