use borrow.Author.Tests.{eq-eqb, ne_eqb}
use Rattle.table_links.proofs.ends.other.Goals as goal

pub returns-then-probe-lows : goal.returns-then-probe-lows
returns-then-probe-lows c = rw (eq-eqb _ _ c.if-probe-lows.true)

pub returns : goal.returns
returns c = rw (ne_eqb _ _ c.if-probe-lows.false)
