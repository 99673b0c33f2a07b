-- Invariant: the frames read so far passed and are stored; fault and events of the bag are those of what is left. Measure: the bytes left.
use Prim.Native.Nat.{◌-◌}
use lib.ListN.{length}
use Rattle.table.specs.Slices.{as_slices, table_of}
use Rattle.probe_hearing.proofs.Reading.{ReadSoFar}
use Rattle.probe_hearing.proofs.frames.read_frames.Given as goal

abbrev pub invariant-loop-at : goal.invariant-loop-at
invariant-loop-at l = ReadSoFar (table_of (as_slices l.table)) l.probe l.bag l.initial.said l.said l.n l.at

abbrev pub decreases-loop-at : goal.decreases-loop-at
decreases-loop-at l = length l.bag - l.at
