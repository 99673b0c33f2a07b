-- Invariant: no need line before v has a fault.
use mathlib.Core.Path.{◌≡◌}
use Rattle.range.specs.First.{first}
use Rattle.table.specs.Text.{need_line_fault}
use Rattle.table_text.proofs.line_checks.check_need_lines.Given as goal

abbrev pub invariant-loop-v : goal.invariant-loop-v
invariant-loop-v l = first (need_line_fault l.text) l.v ≡ 0
