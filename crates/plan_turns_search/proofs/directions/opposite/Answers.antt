use borrow.Author.Tests.{eq-eqb, ne_eqb}
use Rattle.plan_turns_search.specs.Chain.{opposite}
use Rattle.plan_turns_search.proofs.directions.opposite.Goals as goal

pub returns-then-d-eq0 : goal.returns-then-d-eq0
unfolding opposite
returns-then-d-eq0 c = rw (eq-eqb _ _ c.if-d-eq0.true)

pub returns : goal.returns
unfolding opposite
returns c = rw (ne_eqb _ _ c.if-d-eq0.false)
