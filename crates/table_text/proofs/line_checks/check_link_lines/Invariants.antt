-- Invariant: no link line before i has a fault, and `low` and `high` are the ends of the link before.
use Prim.Native.Nat.{◌-◌, ◌<◌}
use mathlib.Core.Path.{◌≡◌}
use Rattle.range.specs.First.{first}
use Rattle.table.specs.Text.{of_text, link_line_fault}
use Rattle.table_text.proofs.line_checks.check_link_lines.Given as goal

abbrev pub invariant-loop-i : goal.invariant-loop-i
invariant-loop-i l = (first (link_line_fault l.text) l.i ≡ 0) × (0 < l.i → (l.low ≡ (of_text l.text).low (l.i - 1)) × (l.high ≡ (of_text l.text).high (l.i - 1)))
