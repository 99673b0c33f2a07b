use Rattle.std.proofs.Common.{rules}
use mathlib.Core.Path.{sym}
use Rattle.range.specs.First.{first}
use Rattle.range.proofs.Faults.{first_none}
use Rattle.refusals.proofs.Laws.{first_refused, at_exit}
use Rattle.probe_record.proofs.checks.check_bytes.Goals as goal

pub loop-i-init : goal.loop-i-init
unfolding first
loop-i-init c = search rules

pub returns-in_err-check_byte : goal.returns-in_err-check_byte
returns-in_err-check_byte c =
    let e = first_refused _ _ _ _ c.loop-i.invariant c.loop-i-test.true c.in_err-check_byte.ensures in
    at_exit _ _ _ c.from_residual.ensures.1 e

pub loop-i-preserved : goal.loop-i-preserved
loop-i-preserved c = first_none _ _ c.loop-i.invariant (sym c.in_ok-check_byte.ensures)
