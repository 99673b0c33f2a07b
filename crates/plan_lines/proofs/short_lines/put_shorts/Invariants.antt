-- Invariant: the lines of the short probes before v are stored, up to `at`.
use Prim.Native.Nat.{◌+◌, ◌*◌}
use mathlib.Core.Path.{◌≡◌}
use lib.Dec.{ltb}
use lib.Seq.{sets}
use Rattle.range.specs.Sum.{count}
use Rattle.range.specs.Lists.{joined}
use Rattle.table.specs.Table.{item}
use Rattle.plan_lines.proofs.Lengths.{short_line_at}
use Rattle.plan_lines.proofs.short_lines.put_shorts.Given as goal

abbrev pub invariant-loop-v : goal.invariant-loop-v
invariant-loop-v l = (l.at ≡ l.start + 9 * count l.v (λ w. ltb (item l.degrees w) (item l.needs w))) × (l.out ≡ sets l.initial.out l.start (joined (short_line_at (item l.degrees) (item l.needs)) l.v))
