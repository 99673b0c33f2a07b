-- Invariant: the lines of the links before i are stored.
use mathlib.Core.Path.{◌≡◌}
use lib.Seq.{sets}
use Rattle.range.specs.Lists.{joined}
use Rattle.table.specs.Table.{item}
use Rattle.table.specs.Text.{triple_line, need_start}
use Rattle.table_write.proofs.text.put_links.Given as goal

abbrev pub invariant-loop-i : goal.invariant-loop-i
invariant-loop-i l = l.out ≡ sets l.initial.out (need_start l.probes) (joined (λ k. triple_line (item l.lows k) (item l.highs k) (item l.costs k)) l.i)
