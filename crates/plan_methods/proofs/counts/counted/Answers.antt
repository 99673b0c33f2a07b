use borrow.Author.Tests.{eq-eqb, ne_eqb}
use Rattle.plan_methods.proofs.counts.counted.Goals as goal

pub returns-then-byte-eq1 : goal.returns-then-byte-eq1
returns-then-byte-eq1 c = rw (eq-eqb _ _ c.if-byte-eq1.true)

pub returns-else-byte-eq1 : goal.returns-else-byte-eq1
returns-else-byte-eq1 c = rw (ne_eqb _ _ c.if-byte-eq1.false)
