use mathlib.Core.Path.{sym, ap, ◌∙◌}
use native.Mathlib.Omega.{arith}
use borrow.Author.Tests.{lt-ltb, le-ltb, not-true, not-false}
use Rattle.refusals.specs.Refusals.{fault_of}
use Rattle.refusals.proofs.Laws.{at_exit, or_refused, or_passed}
use Rattle.probe_checks.specs.Checks.{link_call_fault}
use Rattle.probe_checks.proofs.faults.check_link_call.Goals as goal

pub returns-in_err-state : goal.returns-in_err-state
unfolding link_call_fault
returns-in_err-state c = λ number probes needs costs. at_exit _ _ _ c.from_residual.ensures.1 (or_refused _ _ _ (sym (ap fault_of c.in_err-state.was)))

pub returns-then-links-link : goal.returns-then-links-link
unfolding link_call_fault
returns-then-links-link c = λ number probes needs costs. or_passed _ _ _ (sym (ap fault_of c.in_ok-state.was)) (rw (le-ltb _ _ c.if-links-link.true))

pub touches-requires : goal.touches-requires
touches-requires c =
    let room = c.requires (ap fault_of c.in_ok-state.was) in
    let l = c.if-links-link.false in
    (omega (arith, room.0), omega (arith, room.1))

pub returns-then-not-touches : goal.returns-then-not-touches
unfolding link_call_fault
returns-then-not-touches c = λ number probes needs costs.
    or_passed _ _ _ (sym (ap fault_of c.in_ok-state.was)) (rw (lt-ltb _ _ c.if-links-link.false, sym c.touches.ensures ∙ not-true _ c.if-not-touches.true-raw))

pub returns : goal.returns
unfolding link_call_fault
returns c = λ number probes needs costs.
    or_passed _ _ _ (sym (ap fault_of c.in_ok-state.was)) (rw (lt-ltb _ _ c.if-links-link.false, sym c.touches.ensures ∙ not-false _ c.if-not-touches.false-raw))
