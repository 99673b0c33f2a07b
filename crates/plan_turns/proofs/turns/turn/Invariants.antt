-- Invariant: offers were made and each probe that was satisfied still is. Measure: the untried offers.
use Rattle.plan_turns_search.specs.Record.{links_of, untried_count, MarksAgree}
use Rattle.plan_turns_search.proofs.Turns.{Turning}
use Rattle.plan_turns.proofs.turns.turn.Given as goal

abbrev pub invariant-loop-rec : goal.invariant-loop-rec
invariant-loop-rec l = Turning l.site l.initial.rec l.rec × MarksAgree l.site l.rec l.marks

abbrev pub decreases-loop-rec : goal.decreases-loop-rec
decreases-loop-rec l = untried_count (links_of l.site) l.rec
