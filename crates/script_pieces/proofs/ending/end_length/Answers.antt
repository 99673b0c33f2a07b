use borrow.Author.Tests.{eq-eqb, ne_eqb}
use Rattle.script_pieces.proofs.ending.end_length.Goals as goal

pub returns-then-held-eq0 : goal.returns-then-held-eq0
returns-then-held-eq0 c = rw (eq-eqb _ _ c.if-held-eq0.true)

pub returns : goal.returns
returns c = rw (ne_eqb _ _ c.if-held-eq0.false)
