use mathlib.Core.Path.{sym, ap}
use borrow.Author.Tests.{lt-ltb, le-ltb, eq-eqb, ne_eqb}
use Rattle.refusals.specs.Refusals.{fault_of}
use Rattle.refusals.proofs.Laws.{at_exit, or_refused, or_passed}
use Rattle.probe_checks.specs.Checks.{open_fault}
use Rattle.probe_checks.proofs.faults.check_open.Goals as goal

pub returns-in_err-state : goal.returns-in_err-state
unfolding open_fault
returns-in_err-state c = λ number links needs lows highs costs. at_exit _ _ _ c.from_residual.ensures.1 (or_refused _ _ _ (sym (ap fault_of c.in_err-state.was)))

pub returns-then-probes-probe : goal.returns-then-probes-probe
unfolding open_fault
returns-then-probes-probe c = λ number links needs lows highs costs. or_passed _ _ _ (sym (ap fault_of c.in_ok-state.was)) (rw (le-ltb _ _ c.if-probes-probe.true))

pub returns-then-free-eq0 : goal.returns-then-free-eq0
unfolding open_fault
returns-then-free-eq0 c = λ number links needs lows highs costs. or_passed _ _ _ (sym (ap fault_of c.in_ok-state.was)) (rw (lt-ltb _ _ c.if-probes-probe.false, eq-eqb _ _ c.if-free-eq0.true))

pub returns : goal.returns
unfolding open_fault
returns c = λ number links needs lows highs costs. or_passed _ _ _ (sym (ap fault_of c.in_ok-state.was)) (rw (lt-ltb _ _ c.if-probes-probe.false, ne_eqb _ _ c.if-free-eq0.false))
