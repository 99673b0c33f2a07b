use Prim.Native.Nat.{◌*◌}
use mathlib.Core.Path.{refl}
use native.Mathlib.Omega.{arith}
use lib.Count.{ones-le}
use Rattle.range.specs.Sum.{sum}
use Rattle.range.proofs.Sums.{count_le}
use Rattle.bit_maps.specs.BitMap.{bit}
use Rattle.bit_maps.proofs.Maps.{count_word}
use Rattle.bit_maps.proofs.counts.ones.Goals as goal

pub loop-word-init : goal.loop-word-init
unfolding sum
loop-word-init c = refl

pub overflow_add-n : goal.overflow_add-n
overflow_add-n c =
    let l = c.loop-word in
    omega (arith, ones-le 64 _ (c.type_inv.map l.word-index).fits, count_le (64 * l.word-index) (bit c.args.map.now), l.invariant)

pub loop-word-preserved : goal.loop-word-preserved
loop-word-preserved c =
    let l = c.loop-word in
    omega (arith, count_word c.args.map.now l.word-index (λ w. (c.type_inv.map w).fits), l.invariant)
