use borrow.Author.Tests.{le-leb, lt-leb}
use Rattle.table_links.proofs.order.goes_before.Goals as goal

pub returns-then-links-best : goal.returns-then-links-best
returns-then-links-best c = rw (le-leb _ _ c.if-links-best.true)

pub returns-then-cheapest : goal.returns-then-cheapest
returns-then-cheapest c = rw (lt-leb _ _ c.if-links-best.false, c.if-cheapest.true) c.dearer.ensures

pub returns : goal.returns
returns c = rw (lt-leb _ _ c.if-links-best.false, c.if-cheapest.false) c.dearer-2.ensures
