-- Invariant: the spares before v are put, and what is before them stays.
use Rattle.plan_turns_search.specs.Record.{SparesPut}
use Rattle.plan_turns_search.proofs.chains.put_spares.Given as goal

abbrev pub invariant-loop-v : goal.invariant-loop-v
invariant-loop-v l = SparesPut l.v l.links l.spares l.initial.site l.site
