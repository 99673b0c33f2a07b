-- The place lies within the buffer, and the bytes before the offset stay. What was filled is what was read. Measure: the bytes that are left.
use Rattle.std.proofs.Common.{◌≡◌, ◌-◌, ◌≤◌, length, take, slice_range}
use Rattle.std.specs.Io.KnownBytes.{Consumes}
use Rattle.standard_io.proofs.fill.Given as goal

abbrev pub invariant-loop-at : goal.invariant-loop-at
invariant-loop-at g l = (l.from ≤ l.at) × (l.from ≤ length l.initial.buf → l.at ≤ length l.initial.buf) × (take l.from l.buf ≡ take l.from l.initial.buf)
    × Consumes (g.R.Read.remaining l.initial.input) (g.R.Read.remaining l.input) (slice_range l.buf l.from l.at)

abbrev pub decreases-loop-at : goal.decreases-loop-at
decreases-loop-at g l = length l.initial.buf - l.at
