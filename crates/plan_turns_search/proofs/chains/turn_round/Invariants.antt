-- Invariant: the entries before k are those from the end.
use Prim.Native.Nat.{◌-◌}
use mathlib.Core.Path.{◌≡◌}
use Rattle.range.specs.Lists.{stored}
use Rattle.table.specs.Table.{item}
use Rattle.plan_turns_search.proofs.chains.turn_round.Given as goal

abbrev pub invariant-loop-k : goal.invariant-loop-k
invariant-loop-k l = l.to ≡ stored (λ j. item l.from (l.links - 1 - j)) l.k l.initial.to
