use mathlib.Core.Path.{◌≡◌}
use native.Mathlib.Omega.{arith}
use Rattle.hex_digits.specs.Digits.{digits}
use Rattle.hex_digits.proofs.Laws.{put_step}
use Rattle.hex_digits.proofs.fields.put_number.Goals as goal

pub loop-i-preserved : goal.loop-i-preserved
loop-i-preserved c = put_step _ _ _ _ _ _ c.loop-i-test.true c.digit.ensures c.loop-i.invariant

pub returns : goal.returns
unfolding digits
returns c =
    let e : c.loop-i.i ≡ 0 = omega arith in
    rw e at c.loop-i.invariant
