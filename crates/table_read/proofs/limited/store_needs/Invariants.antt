-- Invariant: the needs before v are stored.
use mathlib.Core.Path.{◌≡◌}
use Rattle.range.specs.Lists.{stored}
use Rattle.table.specs.Text.{of_text}
use Rattle.table_read.proofs.limited.store_needs.Given as goal

abbrev pub invariant-loop-v : goal.invariant-loop-v
invariant-loop-v l = l.needs ≡ stored (of_text l.text).need l.v l.initial.needs
