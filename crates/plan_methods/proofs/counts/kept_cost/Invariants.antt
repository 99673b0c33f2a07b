-- Invariant: n is the cost of the kept links before i.
use mathlib.Core.Path.{◌≡◌}
use Rattle.range.specs.Sum.{weigh}
use Rattle.table.specs.Table.{item}
use Rattle.plan_theory.specs.Plan.{is_kept}
use Rattle.plan_methods.proofs.counts.kept_cost.Given as goal

abbrev pub invariant-loop-i : goal.invariant-loop-i
invariant-loop-i l = l.n ≡ weigh l.i (is_kept l.plan) (item l.costs)
