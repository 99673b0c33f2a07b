use borrow.Author.Tests.{eq-eqb, ne_eqb}
use Rattle.probe_checks.proofs.faults.event_of.Goals as goal

pub returns-then-kind-eq1 : goal.returns-then-kind-eq1
returns-then-kind-eq1 c = rw (eq-eqb _ _ c.if-kind-eq1.true)

pub returns : goal.returns
returns c = rw (ne_eqb _ _ c.if-kind-eq1.false)
