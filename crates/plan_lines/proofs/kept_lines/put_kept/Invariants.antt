-- Invariant: the lines of the kept links before i are stored, up to `at`.
use mathlib.Core.Path.{◌≡◌}
use lib.Seq.{sets}
use Rattle.range.specs.Sum.{count}
use Rattle.range.specs.Lists.{joined}
use Rattle.table.specs.Table.{item}
use Rattle.plan_lines.specs.Lines.{kept_start}
use Rattle.plan_lines.proofs.Lengths.{kept_line_at}
use Rattle.plan_theory.specs.Plan.{is_kept}
use Rattle.plan_lines.proofs.kept_lines.put_kept.Given as goal

abbrev pub invariant-loop-i : goal.invariant-loop-i
invariant-loop-i l = (l.at ≡ kept_start (count l.i (is_kept l.plan))) × (l.out ≡ sets l.initial.out (kept_start 0) (joined (kept_line_at (is_kept l.plan) (item l.lows) (item l.highs) (item l.costs)) l.i))
