-- Invariant: links before `start` come before the given ends, links from `end` on do not. Measure: the links between them.
use Prim.Native.Nat.{◌-◌}
use Rattle.table_links.proofs.Search.{Split}
use Rattle.table_links.proofs.pairs.first_from.Given as goal

abbrev pub invariant-loop-start : goal.invariant-loop-start
invariant-loop-start l = Split l.links l.lows l.highs l.low l.high l.start l.end

abbrev pub decreases-loop-start : goal.decreases-loop-start
decreases-loop-start l = l.end - l.start
