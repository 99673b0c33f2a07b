use mathlib.Core.Path.{sym, ap}
use borrow.Author.Tests.{eq-eqb, ne_eqb}
use Rattle.refusals.specs.Refusals.{fault_of}
use Rattle.refusals.proofs.Laws.{at_exit_if, or_refused, or_passed}
use Rattle.probe_checks.specs.Checks.{hear_fault}
use Rattle.probe_checks.proofs.faults.check_hearing.Goals as goal

pub returns-in_err-state : goal.returns-in_err-state
unfolding hear_fault
returns-in_err-state c = λ probes needs costs. at_exit_if _ _ _ _ c.from_residual.ensures.1 (or_refused _ _ _ (sym (ap fault_of c.in_err-state.was)))

pub check_frame-requires : goal.check_frame-requires
check_frame-requires c = c.requires (ap fault_of c.in_ok-state.was)

pub returns-in_err-event : goal.returns-in_err-event
unfolding hear_fault
returns-in_err-event c = λ probes needs costs.
    let frame = c.in_err-event.ensures probes needs costs in
    at_exit_if _ _ _ _ c.from_residual-in_err-event.ensures.1 (or_passed _ _ _ (sym (ap fault_of c.in_ok-state.was)) (or_refused _ _ _ frame.0))

pub returns-then-free-eq0 : goal.returns-then-free-eq0
unfolding hear_fault
returns-then-free-eq0 c = λ probes needs costs.
    let frame = c.in_ok-event.ensures probes needs costs in
    (or_passed _ _ _ (sym (ap fault_of c.in_ok-state.was)) (or_passed _ _ _ frame.0 (rw (eq-eqb _ _ c.if-free-eq0.true))), tt)

pub returns : goal.returns
unfolding hear_fault
returns c = λ probes needs costs.
    let frame = c.in_ok-event.ensures probes needs costs in
    (or_passed _ _ _ (sym (ap fault_of c.in_ok-state.was)) (or_passed _ _ _ frame.0 (rw (ne_eqb _ _ c.if-free-eq0.false))), frame.1)
