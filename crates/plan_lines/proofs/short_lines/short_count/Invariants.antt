-- Invariant: n is the number of short probes before v.
use mathlib.Core.Path.{◌≡◌}
use lib.Dec.{ltb}
use Rattle.range.specs.Sum.{count}
use Rattle.table.specs.Table.{item}
use Rattle.plan_lines.proofs.short_lines.short_count.Given as goal

abbrev pub invariant-loop-v : goal.invariant-loop-v
invariant-loop-v l = l.n ≡ count l.v (λ w. ltb (item l.degrees w) (item l.needs w))
