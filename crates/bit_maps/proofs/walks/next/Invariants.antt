-- Invariant: no bit from the given place up to the word k is set.
use Prim.Native.Nat.{ℕ, ◌*◌, ◌≤◌, ◌<◌}
use mathlib.Core.Path.{◌≡◌}
use mathlib.Core.Bool.{false}
use Rattle.bit_maps.specs.BitMap.{bit}
use Rattle.bit_maps.proofs.walks.next.Given as goal

abbrev pub invariant-loop-k : goal.invariant-loop-k
invariant-loop-k l = (j : ℕ) → l.from ≤ j → j < 64 * l.k → bit l.map j ≡ false
