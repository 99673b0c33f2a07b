-- Invariant: the first line feed from `at` is the first from `i`.
use mathlib.Core.Path.{◌≡◌}
use Prim.Native.Nat.{◌+◌}
use lib.ListN.{drop}
use Rattle.lines.specs.Line.{until_feed}
use Rattle.lines.proofs.find_line.Given as goal

abbrev pub invariant-loop-i : goal.invariant-loop-i
invariant-loop-i l = l.at + until_feed (drop l.at l.text) ≡ l.i + until_feed (drop l.i l.text)
