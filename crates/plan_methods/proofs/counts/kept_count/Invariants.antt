-- Invariant: n is the number of kept links before i.
use mathlib.Core.Path.{◌≡◌}
use Rattle.range.specs.Sum.{count}
use Rattle.plan_theory.specs.Plan.{is_kept}
use Rattle.plan_methods.proofs.counts.kept_count.Given as goal

abbrev pub invariant-loop-i : goal.invariant-loop-i
invariant-loop-i l = l.n ≡ count l.i (is_kept l.plan)
