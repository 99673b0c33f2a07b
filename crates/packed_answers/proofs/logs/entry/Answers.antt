use borrow.Author.Tests.{lt-ltb, le-ltb}
use Rattle.packed_answers.proofs.logs.entry.Goals as goal

pub returns-then-used-i : goal.returns-then-used-i
returns-then-used-i c = simp (le-ltb _ _ c.if-used-i.true)

pub returns-then-log-i : goal.returns-then-log-i
returns-then-log-i c = simp (lt-ltb _ _ c.if-used-i.false, le-ltb _ _ c.if-log-i.true)

pub returns : goal.returns
returns c = simp (lt-ltb _ _ c.if-used-i.false, lt-ltb _ _ c.if-log-i.false)
