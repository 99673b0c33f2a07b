use Prim.Native.Nat.{◌+◌, ◌-◌}
use mathlib.Core.Path.{◌≡◌, refl, sym}
use native.Mathlib.Omega.{arith}
use Rattle.range.specs.First.{first}
use Rattle.range.proofs.Faults.{first_none}
use Rattle.refusals.proofs.Laws.{first_refused, at_exit}
use Rattle.table_text.proofs.line_checks.check_link_lines.Goals as goal

pub loop-i-init : goal.loop-i-init
unfolding first
loop-i-init c = (refl, λ l. absurd (omega arith))

pub returns-in_err-link : goal.returns-in_err-link
returns-in_err-link c =
    at_exit _ _ _ c.from_residual.ensures.1 (first_refused _ _ _ _ c.loop-i.invariant.0 c.loop-i-test.true c.in_err-link.ensures.0)

pub loop-i-preserved : goal.loop-i-preserved
loop-i-preserved c =
    let k = c.in_ok-link.ensures in
    let same : c.loop-i.i + 1 - 1 ≡ c.loop-i.i = omega arith in
    (first_none _ _ c.loop-i.invariant.0 (sym k.0), λ z. rw same k.1)
