use borrow.Author.Tests.{eq-eqb, ne_eqb}
use Rattle.table_links.proofs.pairs.are_ends.Goals as goal

pub returns-then-a-low : goal.returns-then-a-low
returns-then-a-low c = rw (ne_eqb _ _ c.if-a-low.true)

pub returns : goal.returns
returns c = rw (eq-eqb _ _ c.if-a-low.false)
