-- Invariant: the links before i are stored.
use mathlib.Core.Path.{◌≡◌}
use Rattle.range.specs.Lists.{stored}
use Rattle.table.specs.Text.{of_text}
use Rattle.table_read.proofs.limited.store_links.Given as goal

abbrev pub invariant-loop-i : goal.invariant-loop-i
invariant-loop-i l =
    (l.lows ≡ stored (of_text l.text).low l.i l.initial.lows) × (l.highs ≡ stored (of_text l.text).high l.i l.initial.highs) × (l.costs ≡ stored (of_text l.text).cost l.i l.initial.costs)
