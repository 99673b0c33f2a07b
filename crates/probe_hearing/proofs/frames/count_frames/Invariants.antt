-- Invariant: the frames counted and those left are all of them, and at most 64 are counted. Measure: the bytes left.
use Prim.Native.Nat.{◌+◌, ◌-◌, ◌≤◌}
use mathlib.Core.Path.{◌≡◌}
use mathlib.Core.List.{[]}
use lib.ListN.{length}
use Rattle.lines.specs.Line.{lines_from}
use Rattle.probe_hearing.proofs.Laws.{left}
use Rattle.probe_hearing.proofs.frames.count_frames.Given as goal

abbrev pub invariant-loop-at : goal.invariant-loop-at
invariant-loop-at l = (l.at ≤ length l.bag) × (l.count + length (left l.bag l.at) ≡ length (lines_from [] l.bag)) × (l.count ≤ 64)

abbrev pub decreases-loop-at : goal.decreases-loop-at
decreases-loop-at l = length l.bag - l.at
