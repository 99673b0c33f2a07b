-- Invariant: no link before i has a wrong byte or mark.
use mathlib.Core.Path.{◌≡◌}
use Rattle.range.specs.First.{first}
use Rattle.fleet_theory.specs.Fleet.{link_bytes_fault}
use Rattle.fleet_state.proofs.checks.check_bytes.Given as goal

abbrev pub invariant-loop-i : goal.invariant-loop-i
invariant-loop-i l = first (link_bytes_fault l.rec) l.i ≡ 0
