-- Invariant: no link before i has a bad byte.
use mathlib.Core.Path.{◌≡◌}
use mathlib.Core.List.{[]}
use Rattle.range.specs.First.{first}
use Rattle.table.specs.Table.{of_slices}
use Rattle.probe_record.specs.Record.{byte_fault}
use Rattle.probe_record.proofs.checks.check_bytes.Given as goal

abbrev pub invariant-loop-i : goal.invariant-loop-i
invariant-loop-i l = first (byte_fault (of_slices 0 0 0 [] l.lows l.highs []) l.probe l.rec) l.i ≡ 0
