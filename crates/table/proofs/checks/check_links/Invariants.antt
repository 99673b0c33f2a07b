-- Invariant: no link before i has a fault.
use mathlib.Core.Path.{◌≡◌}
use Rattle.range.specs.First.{first}
use Rattle.table.specs.Table.{item}
use Rattle.table.specs.Legal.{link_fault}
use Rattle.table.proofs.checks.check_links.Given as goal

abbrev pub invariant-loop-i : goal.invariant-loop-i
invariant-loop-i l = first (link_fault l.probes (item l.lows) (item l.highs)) l.i ≡ 0
