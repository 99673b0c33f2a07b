use Prim.Native.Nat.{ℕ, ◌/◌, ◌%◌}
use mathlib.Core.Path.{ap, ◌∙◌}
use native.Mathlib.Omega.{arith}
use lib.ListN.{get_or, set}
use lib.Bits.{bit_or}
use Rattle.bit_maps.proofs.Words.{shifted_one}
use Rattle.bit_maps.proofs.Maps.{bit_added}
use Rattle.bit_maps.proofs.bits.add.Goals as goal

pub returns : goal.returns
returns c =
    let m = c.args.map.now in
    let i = c.args.i in
    ap (λ (x : ℕ). set m (i / 64) (bit_or (get_or m (i / 64) 0) x)) (shifted_one (i % 64) (omega arith))
    ∙ bit_added m i (λ k. (c.slice_known-1.given k).fits) c.requires
