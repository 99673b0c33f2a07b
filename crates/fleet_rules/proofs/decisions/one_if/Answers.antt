use borrow.Author.Tests.{eq-eqb, ne_eqb}
use Rattle.fleet_rules.proofs.decisions.one_if.Goals as goal

pub returns-then-byte-eq1 : goal.returns-then-byte-eq1
returns-then-byte-eq1 c = rw (eq-eqb _ _ c.if-byte-eq1.true)

pub returns : goal.returns
returns c = rw (ne_eqb _ _ c.if-byte-eq1.false)
