-- Invariant: n is the number of ones in the words so far.
use Prim.Native.Nat.{◌*◌}
use mathlib.Core.Path.{◌≡◌}
use Rattle.range.specs.Sum.{count}
use Rattle.bit_maps.specs.BitMap.{bit}
use Rattle.bit_maps.proofs.counts.ones.Given as goal

abbrev pub invariant-loop-word : goal.invariant-loop-word
invariant-loop-word l = l.n ≡ count (64 * l.word-index) (bit l.map)
