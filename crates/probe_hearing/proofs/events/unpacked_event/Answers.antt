use borrow.Author.Tests.{eq-eqb, ne_eqb}
use Rattle.probe_hearing.proofs.events.unpacked_event.Goals as goal

pub returns-then-packed-eq0 : goal.returns-then-packed-eq0
returns-then-packed-eq0 c = simp (eq-eqb _ _ c.if-packed-eq0.true)

pub returns : goal.returns
returns c = simp (ne_eqb _ _ c.if-packed-eq0.false)
