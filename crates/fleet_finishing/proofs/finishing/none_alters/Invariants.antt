-- Invariant: on no link before i would a frame alter a byte.
use mathlib.Core.Path.{◌≡◌}
use Rattle.range.specs.Sum.{count}
use Rattle.fleet_finishing.proofs.Finished.{alters_of}
use Rattle.fleet_finishing.proofs.finishing.none_alters.Given as goal

abbrev pub invariant-loop-i : goal.invariant-loop-i
invariant-loop-i l = count l.i (alters_of l.rec) ≡ 0
