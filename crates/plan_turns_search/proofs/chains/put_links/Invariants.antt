-- Invariant: the links before i are put.
use Rattle.plan_turns_search.specs.Record.{LinksPut}
use Rattle.plan_turns_search.proofs.chains.put_links.Given as goal

abbrev pub invariant-loop-i : goal.invariant-loop-i
invariant-loop-i l = LinksPut l.i l.lows l.highs l.costs l.initial.site l.site
