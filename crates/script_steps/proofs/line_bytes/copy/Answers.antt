use mathlib.Core.Path.{refl}
use native.Mathlib.Omega.{arith}
use Rattle.range.proofs.Sets.{sets_next}
use Rattle.script_steps.proofs.line_bytes.copy.Goals as goal

pub loop-i-init : goal.loop-i-init
loop-i-init c = refl

pub loop-i-preserved : goal.loop-i-preserved
loop-i-preserved c =
    let a = c.args in
    sets_next a.to.now _ a.from.now a.at c.loop-i.i (omega arith) c.loop-i.invariant
