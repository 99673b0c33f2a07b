-- Invariant: the lines of the probes before v are stored.
use mathlib.Core.Path.{◌≡◌}
use lib.Seq.{sets}
use Rattle.range.specs.Lists.{joined}
use Rattle.table.specs.Table.{item}
use Rattle.table.specs.Text.{need_line, need_start}
use Rattle.table_write.proofs.text.put_needs.Given as goal

abbrev pub invariant-loop-v : goal.invariant-loop-v
invariant-loop-v l = l.out ≡ sets l.initial.out (need_start 0) (joined (λ u. need_line (item l.needs u)) l.v)
