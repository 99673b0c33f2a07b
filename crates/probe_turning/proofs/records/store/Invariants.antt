-- Invariant: the bytes of the links before i are stored, and the others are as they were.
use mathlib.Core.Path.{◌≡◌}
use lib.Seq.{sets}
use Rattle.probe_maps.specs.Maps.{rows, bytes_of}
use Rattle.probe_turning.proofs.records.store.Given as goal

abbrev pub invariant-loop-i : goal.invariant-loop-i
invariant-loop-i l = l.rec ≡ sets l.initial.rec 0 (bytes_of l.i (rows l.standing l.refused_out l.held l.refused_in))
