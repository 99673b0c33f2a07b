-- Invariant: n is the number of bytes 1 before i.
use Prim.Native.Nat.{ℕ, ◌+◌, ◌*◌, ◌≤◌}
use mathlib.Core.Path.{◌≡◌}
use mathlib.Core.List.{List}
use mathlib.Core.Bool.{Bool}
use lib.Dec.{eqb}
use Rattle.range.specs.Sum.{count}
use Rattle.table.specs.Table.{item}
use Rattle.probe_record.proofs.counts.ones.Given as goal

-- the byte of the link i is 1
abbrev pub one : List ℕ → ℕ → ℕ → Bool
one rec at i = eqb (item rec (2 * i + at)) 1

abbrev pub invariant-loop-i : goal.invariant-loop-i
invariant-loop-i l = (l.n ≡ count l.i (one l.rec l.at)) × (l.n ≤ l.i)
